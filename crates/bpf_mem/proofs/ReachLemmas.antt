-- Which bytes are from an address on.
use Rattle.std.proofs.Common.{◌≡◌, ℕ, zero, suc, ◌+◌, ◌-◌, ◌<◌, ◌≤◌, List, [], ◌∷◌, length, take, drop, get_or, true, false, refl, sym, ap}
use Rattle.std.proofs.Common.{◌∙◌, arith, nat_lt, nat_le, drop-cons, inl, inr}
use Rattle.std.specs.Prelude.{Option, Some, None, option_and_then, option_map, slice_get, ◌&&◌, is_some}
use Rattle.std.proofs.lemmas.Option.{slice_get_past, slice_get-get_or}
use Rattle.std.proofs.lemmas.Bool.Decides.{nat_tests}
use Rattle.bpf_mem.specs.declared.memory.PrivateMemory.{PrivateMemory}
use Rattle.bpf_base.specs.Bytes.{little_endian}
use Rattle.bpf_mem.specs.Limits.{max_context, max_packet}
use Rattle.bpf_mem.specs.Addresses.{context_base, frame_base, packet_base}
use Rattle.bpf_mem.specs.Memory.{byte_at, bytes_at, number_at}
use Rattle.bpf_mem.proofs.AreaLemmas.{Sized, byte_at-below, by_le, byte_at-context, byte_at-in_context, byte_at-frame, byte_at-gap, byte_at-packet}

-- the same byte, where two sums are the same
moved : (m : PrivateMemory) (a b : ℕ) (bytes : List ℕ) (i j : ℕ) → a ≡ b → i ≡ j → byte_at m b ≡ slice_get bytes j → byte_at m a ≡ slice_get bytes i
moved m a b bytes i j ea ei e = rw (ea, ei) e

-- as many bytes as are in a list
pub bytes_at-list : (m : PrivateMemory) (a o n : ℕ) (bytes : List ℕ) → ((k : ℕ) → k < n → byte_at m (a + k) ≡ slice_get bytes (o + k)) → o +
    n ≤ length bytes → bytes_at m a n ≡ Some (take n (drop o bytes))
unfolding bytes_at
bytes_at-list m a o zero bytes each h = refl
bytes_at-list m a o (suc n) bytes each h =
    let within : o < length bytes = omega arith in
    let rest : bytes_at m (suc a) n ≡ Some (take n (drop (suc o) bytes)) =
    bytes_at-list m (suc a) (suc o) n bytes (λ k below. moved m (suc a + k) (a + suc k) bytes (suc o + k) (o + suc k) (omega arith)
    (omega arith) (each (suc k) (omega arith))) (omega arith) in
    let first : byte_at m a ≡ Some (get_or bytes o 0) =
    moved m a (a + 0) bytes o (o + 0) (omega arith) (omega arith) (each 0 (omega arith)) ∙ slice_get-get_or bytes o 0 within in
    rw (first, rest, drop-cons bytes o 0 within)

-- one byte is missing
pub bytes_at-none : (m : PrivateMemory) (a n k : ℕ) → k < n → byte_at m (a + k) ≡ None → bytes_at m a n ≡ None
unfolding bytes_at
bytes_at-none m a zero k h e = absurd (omega arith)
bytes_at-none m a (suc n) zero h e =
    let first : byte_at m a ≡ None = moved m a (a + 0) [] 0 0 (omega arith) refl e in
    rw first
bytes_at-none m a (suc n) (suc k) h e =
    let rest : bytes_at m (suc a) n ≡ None =
    bytes_at-none m (suc a) n k (omega arith) (moved m (suc a + k) (a + suc k) [] 0 0 (omega arith) refl e) in
    rw rest (lost (byte_at m a))
  where
    lost : (o : Option ℕ) → option_and_then (λ byte. option_map (λ (bytes : List ℕ). byte ∷ bytes) None) o ≡ None
    lost None = refl
    lost (Some byte) = refl

is_some-none : (o : Option (List ℕ)) → o ≡ None → is_some o ≡ false
is_some-none o e = rw e

is_some-some : (o : Option (List ℕ)) (bytes : List ℕ) → o ≡ Some bytes → is_some o ≡ true
is_some-some o bytes e = rw e

pub reached-below : (m : PrivateMemory) (a n : ℕ) → a < packet_base → 1 ≤ n → is_some (bytes_at m a n) ≡ false
reached-below m a n h some =
    is_some-none (bytes_at m a n) (bytes_at-none m a n 0 (omega arith) (byte_at-below m (a + 0) (omega arith)))

-- the bytes of the packet
pub packet-bytes : (m : PrivateMemory) (a o n : ℕ) → a ≡ packet_base + o → a + n < context_base → o + n ≤ length m.packet → bytes_at m a n ≡
    Some (take n (drop o m.packet))
packet-bytes m a o n e low h =
    bytes_at-list m a o n m.packet (λ k below. byte_at-packet m (a + k) (o + k) (omega arith) (omega arith)) h

-- the byte past the packet's end, or the first one where that is after it
packet-past : (m : PrivateMemory) (a o n : ℕ) → length m.packet ≤ max_packet → a ≡ packet_base + o → a < context_base → 1 ≤ n → length
    m.packet < o + n → bytes_at m a n ≡ None
packet-past m a o n brief e h some past =
    let k = length m.packet - o in
    bytes_at-none m a n k (omega arith) (byte_at-packet m (a + k) (o + k) (omega arith) (omega arith) ∙ slice_get_past m.packet (o + k) (omega arith))

pub reached-packet : (m : PrivateMemory) (a o n : ℕ) → length m.packet ≤ max_packet → a ≡ packet_base + o → a < context_base → 1 ≤ n →
    is_some (bytes_at m a n) ≡ nat_le (o + n) (length m.packet)
reached-packet m a o n brief e h some =
    by_le (o + n) (length m.packet)
    (λ within. is_some-some _ _ (packet-bytes m a o n e (omega arith) within) ∙ sym (grind (arith, nat_tests)))
    (λ past. is_some-none _ (packet-past m a o n brief e h some past) ∙ sym (grind (arith, nat_tests)))

-- the bytes of the context
pub context-bytes : (m : PrivateMemory) (a o n : ℕ) → a ≡ context_base + o → o + n < 0x100000000 → o + n ≤ length m.context → bytes_at m a n
    ≡ Some (take n (drop o m.context))
context-bytes m a o n e low h =
    bytes_at-list m a o n m.context (λ k below. byte_at-in_context m (a + k) (o + k) (omega arith) (omega arith) (omega arith)) h

-- the byte past the context's end, or the first one where that is after it
context-past : (m : PrivateMemory) (a o n : ℕ) → length m.context ≤ max_context → length m.packet ≤ max_packet → a ≡ context_base + o → o <
    0x100000000 → 1 ≤ n → length m.context < o + n → bytes_at m a n ≡ None
context-past m a o n small brief e h some past =
    let k = length m.context - o in
    bytes_at-none m a n k (omega arith) (byte_at-context m (a + k) (o + k) brief (omega arith) (omega arith) ∙ slice_get_past m.context (o + k) (omega arith))

pub reached-context : (m : PrivateMemory) (a o n : ℕ) → length m.context ≤ max_context → length m.packet ≤ max_packet → a ≡ context_base + o
    → o < 0x100000000 → 1 ≤ n → is_some (bytes_at m a n) ≡ nat_le (o + n) (length m.context)
reached-context m a o n small brief e h some =
    by_le (o + n) (length m.context)
    (λ within. is_some-some _ _ (context-bytes m a o n e (omega arith) within) ∙ sym (grind (arith, nat_tests)))
    (λ past. is_some-none _ (context-past m a o n small brief e h some past) ∙ sym (grind (arith, nat_tests)))

-- the bytes of a frame
pub frame-bytes : (m : PrivateMemory) (a d o n : ℕ) → Sized m.frames.live → a ≡ frame_base d + o → d < length m.frames.live → o + n ≤ 512 →
    bytes_at m a n ≡ Some (take n (drop o (get_or m.frames.live d [])))
frame-bytes m a d o n sized e live h =
    bytes_at-list m a o n (get_or m.frames.live d []) (λ k below. byte_at-frame m (a + k) d (o + k) sized (omega arith) live (omega arith))
    (omega (arith, sized d [] live))

-- no such frame
frame-dead : (m : PrivateMemory) (a d o n : ℕ) → length m.context ≤ max_context → length m.packet ≤ max_packet → Sized m.frames.live → a ≡
    frame_base d + o → o < 0x1000 → 1 ≤ n → length m.frames.live ≤ d → bytes_at m a n ≡ None
frame-dead m a d o n small brief sized e h some dead =
    bytes_at-none m a n 0 (omega arith) (byte_at-gap m (a + 0) d o small brief sized (omega arith) h (inl dead))

-- past the end of the frame
frame-past : (m : PrivateMemory) (a d o n : ℕ) → length m.context ≤ max_context → length m.packet ≤ max_packet → Sized m.frames.live → a ≡
    frame_base d + o → o < 0x1000 → 1 ≤ n → 512 < o + n → bytes_at m a n ≡ None
frame-past m a d o n small brief sized e h some past =
    let k = 512 - o in
    bytes_at-none m a n k (omega arith) (byte_at-gap m (a + k) d (o + k) small brief sized (omega arith) (omega arith) (inr (omega arith)))

pub reached-stack : (m : PrivateMemory) (a d o n : ℕ) → length m.context ≤ max_context → length m.packet ≤ max_packet → Sized m.frames.live
    → a ≡ frame_base d + o → o < 0x1000 → 1 ≤ n → is_some (bytes_at m a n) ≡ nat_lt d (length m.frames.live) && nat_le (o + n) 512
reached-stack m a d o n small brief sized e h some =
    by_le (length m.frames.live) d
    (λ dead. is_some-none _ (frame-dead m a d o n small brief sized e h some dead) ∙ sym (grind (arith, nat_tests)))
    (λ live. by_le (o + n) 512
    (λ within. is_some-some _ _ (frame-bytes m a d o n sized e live within) ∙ sym (grind (arith, nat_tests)))
    (λ past. is_some-none _ (frame-past m a d o n small brief sized e h some past) ∙ sym (grind (arith, nat_tests))))

-- ---- the bytes and the numbers there

pub bytes_in_context : (m : PrivateMemory) (o n : ℕ) → length m.context ≤ max_context → o + n ≤ length m.context → bytes_at m
    (context_base + o) n ≡ Some (take (o + n - o) (drop o m.context))
bytes_in_context m o n small h =
    let count : o + n - o ≡ n = omega arith in
    rw count (context-bytes m (context_base + o) o n refl (omega arith) h)

pub bytes_in_packet : (m : PrivateMemory) (o n : ℕ) → length m.packet ≤ max_packet → o + n ≤ length m.packet → bytes_at m (packet_base + o)
    n ≡ Some (take (o + n - o) (drop o m.packet))
bytes_in_packet m o n brief h =
    let count : o + n - o ≡ n = omega arith in
    rw count (packet-bytes m (packet_base + o) o n refl (omega arith) h)

pub bytes_in_frame : (m : PrivateMemory) (d o n : ℕ) → Sized m.frames.live → d < length m.frames.live → o + n ≤ 512 → bytes_at m
    (frame_base d + o) n ≡ Some (take (o + n - o) (drop o (get_or m.frames.live d [])))
bytes_in_frame m d o n sized live h =
    let count : o + n - o ≡ n = omega arith in
    rw count (frame-bytes m (frame_base d + o) d o n sized refl live h)

pub reached_in_frame : (m : PrivateMemory) (d o n : ℕ) → Sized m.frames.live → d < length m.frames.live → o + n ≤ 512 → is_some
    (bytes_at m (frame_base d + o) n) ≡ true
reached_in_frame m d o n sized live h = is_some-some _ _ (frame-bytes m (frame_base d + o) d o n sized refl live h)

pub number_in_context : (m : PrivateMemory) (o n : ℕ) → length m.context ≤ max_context → o + n ≤ length m.context → number_at m
    (context_base + o) n ≡ Some (little_endian (take n (drop o m.context)))
number_in_context m o n small h =
    ap (option_map little_endian) (context-bytes m (context_base + o) o n refl (omega arith) h)

pub number_in_packet : (m : PrivateMemory) (o n : ℕ) → length m.packet ≤ max_packet → o + n ≤ length m.packet → number_at m
    (packet_base + o) n ≡ Some (little_endian (take n (drop o m.packet)))
number_in_packet m o n brief h =
    ap (option_map little_endian) (packet-bytes m (packet_base + o) o n refl (omega arith) h)

pub number_in_frame : (m : PrivateMemory) (d o n : ℕ) → Sized m.frames.live → d < length m.frames.live → o + n ≤ 512 → number_at m
    (frame_base d + o) n ≡ Some (little_endian (take n (drop o (get_or m.frames.live d []))))
number_in_frame m d o n sized live h =
    ap (option_map little_endian) (frame-bytes m (frame_base d + o) d o n sized refl live h)

-- ---- how many bytes there are

more : (n : ℕ) (bytes : List ℕ) (rest : Option (List ℕ)) (byte : ℕ) → ((bs : List ℕ) → rest ≡ Some bs → length bs ≡ n) → option_map
    (λ (bs : List ℕ). byte ∷ bs) rest ≡ Some bytes → length bytes ≡ suc n
more n bytes None byte shorter e = cc
more n bytes (Some bs) byte shorter e = let same : bytes ≡ byte ∷ bs = cc in ap length same ∙ ap suc (shorter bs refl)

first : (n : ℕ) (bytes : List ℕ) (rest : Option (List ℕ)) (one : Option ℕ) → ((bs : List ℕ) → rest ≡ Some bs → length bs ≡ n) →
    option_and_then (λ (byte : ℕ). option_map (λ (bs : List ℕ). byte ∷ bs) rest) one ≡ Some bytes → length bytes ≡ suc n
first n bytes rest None shorter e = cc
first n bytes rest (Some byte) shorter e = more n bytes rest byte shorter e

-- as many bytes as were asked for
pub length-bytes_at : (m : PrivateMemory) (a n : ℕ) (bytes : List ℕ) → bytes_at m a n ≡ Some bytes → length bytes ≡ n
unfolding bytes_at
length-bytes_at m a zero bytes e = let same : bytes ≡ [] = cc in ap length same
length-bytes_at m a (suc n) bytes e = first n bytes (bytes_at m (suc a) n) (byte_at m a) (length-bytes_at m (suc a) n) e
