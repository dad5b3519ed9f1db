-- A memory is known by its bytes; so what a write leaves is known.
use Rattle.std.proofs.Common.{◌≡◌, ℕ, zero, suc, ◌+◌, ◌-◌, ◌<◌, List, [], ◌∷◌, length, get_or, refl, sym, ap, ◌∙◌, arith, inl, inr}
use Rattle.std.specs.Prelude.{Option, Some, None, map, option_and_then, option_map, slice_get}
use Rattle.std.proofs.lemmas.List.{ext_get_or}
use Rattle.bpf_mem.specs.declared.memory.PrivateMemory.{PrivateMemory}
use Rattle.bpf_mem.specs.Addresses.{context_base, frame_base, packet_base}
use Rattle.bpf_mem.specs.Memory.{byte_at, bytes_at, Writes}
use Rattle.bpf_mem.specs.declared.frames.Caller.{Caller}
use Rattle.bpf_mem.specs.Laws.{IsMemory, WritesAreDetermined}
use Rattle.bpf_base.proofs.Lists.{same_elements}
use Rattle.bpf_mem.proofs.AreaLemmas.{by_le, byte_at-context, byte_at-frame, byte_at-packet}

-- ---- the shape stays

length-map : (xs ys : List (List ℕ)) → map length ys ≡ map length xs → length ys ≡ length xs
length-map [] [] e = refl
length-map [] (y ∷ ys) e = absurd cc
length-map (x ∷ xs) [] e = absurd cc
length-map (x ∷ xs) (y ∷ ys) e = let rest : map length ys ≡ map length xs = cc in ap suc (length-map xs ys rest)

length-each : (xs ys : List (List ℕ)) (k : ℕ) (d : List ℕ) → map length ys ≡ map length xs → length (get_or ys k d) ≡ length (get_or xs k d)
length-each [] [] k d e = refl
length-each [] (y ∷ ys) k d e = absurd cc
length-each (x ∷ xs) [] k d e = absurd cc
length-each (x ∷ xs) (y ∷ ys) zero d e = cc
length-each (x ∷ xs) (y ∷ ys) (suc k) d e = let rest : map length ys ≡ map length xs = cc in length-each xs ys k d rest

stays : (old new : PrivateMemory) (a : ℕ) (bytes : List ℕ) → IsMemory old → Writes old a bytes new → IsMemory new
stays old new a bytes m w =
    let count : length new.frames.live ≡ length old.frames.live = length-map old.frames.live new.frames.live w.frames in
    let same = w.context in
    let small = m.small in
    let alike = w.packet in
    let brief = m.brief in
    record {
      stack = record {
        some = let h = m.stack.some in omega arith;
        bounded = let h = m.stack.bounded in omega arith;
        sized = λ k d h. length-each old.frames.live new.frames.live k d w.frames ∙ m.stack.sized k d (omega arith);
        paired = let h = m.stack.paired in ap (λ cs. length cs + 1) w.callers ∙ h ∙ sym count;
      };
      small = omega arith;
      brief = omega arith;
    }

-- ---- the bytes are the same

-- what was read first, and after it
record Read (o : Option ℕ) (r : Option (List ℕ)) (bytes : List ℕ) : Type 0 where
  byte : ℕ
  rest : List ℕ
  first : o ≡ Some byte
  behind : r ≡ Some rest
  all : bytes ≡ byte ∷ rest

read_parts : (o : Option ℕ) (r : Option (List ℕ)) (bytes : List ℕ) → option_and_then (λ byte. option_map (λ bytes. byte ∷ bytes) r) o ≡ Some
    bytes → Read o r bytes
read_parts None r bytes e = absurd cc
read_parts (Some b) None bytes e = absurd cc
read_parts (Some b) (Some bs) bytes e = record { byte = b; rest = bs; first = refl; behind = refl; all = cc }

byte_of : (m : PrivateMemory) (a n : ℕ) (bytes : List ℕ) (i b : ℕ) → bytes_at m a n ≡ Some bytes → i < n → b ≡ a + i → byte_at m b ≡ slice_get bytes i
unfolding bytes_at
byte_of m a zero bytes i b e h s = absurd (omega arith)
byte_of m a (suc n) bytes zero b e h s =
    let r = read_parts (byte_at m a) (bytes_at m (suc a) n) bytes e in
    let here : b ≡ a = omega arith in
    rw (here, r.all) r.first
byte_of m a (suc n) bytes (suc i) b e h s =
    let r = read_parts (byte_at m a) (bytes_at m (suc a) n) bytes e in
    rw r.all (byte_of m (suc a) n r.rest i b r.behind (omega arith) (omega arith))

same_bytes : (old new other : PrivateMemory) (a : ℕ) (bytes : List ℕ) → Writes old a bytes new → Writes old a bytes other → (b : ℕ) →
    byte_at new b ≡ byte_at other b
same_bytes old new other a bytes w v b =
    by_le a b (λ from. by_le (a + length bytes) b
    (λ past. w.others b (inr past) ∙ sym (v.others b (inr past)))
    (λ within. byte_of new a (length bytes) bytes (b - a) b w.written (omega arith) (omega arith) ∙ sym
    (byte_of other a (length bytes) bytes (b - a) b v.written (omega arith) (omega arith))))
    (λ below. w.others b (inl below) ∙ sym (v.others b (inl below)))

-- ---- so the memories are

same_packet : (m n : PrivateMemory) → IsMemory m → length m.packet ≡ length n.packet → ((b : ℕ) → byte_at m b ≡ byte_at n b) → m.packet ≡ n.packet
same_packet m n sound e each =
    let brief = sound.brief in
    same_elements 0 m.packet n.packet e (λ k h. sym (byte_at-packet m (packet_base + k) k refl (omega arith)) ∙ each (packet_base + k) ∙
    byte_at-packet n (packet_base + k) k refl (omega arith))

same_context : (m n : PrivateMemory) → IsMemory m → IsMemory n → length m.context ≡ length n.context → ((b : ℕ) → byte_at m b ≡ byte_at n b)
    → m.context ≡ n.context
same_context m n sound sound' e each =
    let small = sound.small in
    same_elements 0 m.context n.context e (λ k h. sym (byte_at-context m (context_base + k) k sound.brief refl (omega arith)) ∙ each
    (context_base + k) ∙ byte_at-context n (context_base + k) k sound'.brief refl (omega arith))

same_frames : (m n : PrivateMemory) → IsMemory m → IsMemory n → length m.frames.live ≡ length n.frames.live →
    ((b : ℕ) → byte_at m b ≡ byte_at n b) → m.frames.live ≡ n.frames.live
same_frames m n sound sound' e each = ext_get_or [] m.frames.live n.frames.live e frame
  where
    frame : (d : ℕ) → d < length m.frames.live → get_or m.frames.live d [] ≡ get_or n.frames.live d []
    frame d h =
        let sized = sound.stack.sized d [] h in
        let sized' = sound'.stack.sized d [] (omega arith) in
        same_elements 0 (get_or m.frames.live d []) (get_or n.frames.live d []) (sized ∙ sym sized') (λ o k.
        sym (byte_at-frame m (frame_base d + o) d o sound.stack.sized refl h (omega arith)) ∙ each (frame_base d + o)
        ∙ byte_at-frame n (frame_base d + o) d o sound'.stack.sized refl (omega arith) (omega arith))

memory : List (List ℕ) → List Caller → List ℕ → List ℕ → PrivateMemory
memory live callers context packet = record { frames = record { live = live; callers = callers }; context = context; packet = packet }

same_memory : (m n : PrivateMemory) → m.frames.live ≡ n.frames.live → m.frames.callers ≡ n.frames.callers → m.context ≡ n.context → m.packet ≡ n.packet → m ≡ n
unfolding memory
same_memory m n live callers context packet =
    let first : memory m.frames.live m.frames.callers m.context m.packet ≡ memory n.frames.live n.frames.callers n.context n.packet = rw
    (live, callers, context, packet) in
    first

pub writes_are_determined : WritesAreDetermined
writes_are_determined old a bytes new other sound w v =
    let here = stays old new a bytes sound w in
    let there = stays old other a bytes sound v in
    let each = same_bytes old new other a bytes w v in
    let context : length new.context ≡ length other.context = w.context ∙ sym v.context in
    let packet : length new.packet ≡ length other.packet = w.packet ∙ sym v.packet in
    let frames : map length other.frames.live ≡ map length new.frames.live = v.frames ∙ sym w.frames in
    let count = length-map new.frames.live other.frames.live frames in (
      here,
      same_memory new other (same_frames new other here there (sym count) each) (w.callers ∙ sym v.callers)
          (same_context new other here there context each) (same_packet new other here packet each),
    )
