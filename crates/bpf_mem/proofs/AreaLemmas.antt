-- Which byte is at an address, by the parts of the address space: below the packet, from the packet to the context, from
-- the context to the stack, and the stack's strides.
use Rattle.std.proofs.Common.{◌≡◌, ℕ, zero, suc, ◌+◌, ◌-◌, ◌<◌, ◌≤◌, List, [], ◌∷◌, length, refl, ap, ◌∙◌, arith, nat_lt, false, get_or, ◌++◌, inl, inr, ◌⊎◌}
use Rattle.std.specs.Prelude.{All, Option, Some, None, option_and_then, slice_get}
use Rattle.std.specs.Option.{option_or}
use Rattle.std.proofs.lemmas.Option.{slice_get_past, slice_get-get_or}
use Rattle.std.proofs.lemmas.Bool.{cases_lt}
use Rattle.std.proofs.lemmas.Bool.Decides.{nat_tests}
use Rattle.bpf_mem.specs.declared.memory.PrivateMemory.{PrivateMemory}
use Rattle.bpf_mem.specs.Limits.{max_context, max_packet, frame_bytes}
use Rattle.bpf_mem.specs.Addresses.{context_base, frame_base, packet_base}
use Rattle.bpf_mem.specs.Memory.{Area, frame_areas, byte_in, byte_among, byte_at}

-- a test by cases
pub by_le : {P : Type 0} (a b : ℕ) → (a ≤ b → P) → (b < a → P) → P
by_le a b low high = elim (cases_lt b a) [ inl past ↦ high past | inr within ↦ low within ]

-- each frame has 512 bytes
abbrev pub Sized : List (List ℕ) → Type 0
Sized frames = All (λ frame. length frame ≡ frame_bytes) frames

pub Sized-tail : (frame : List ℕ) (frames : List (List ℕ)) → Sized (frame ∷ frames) → Sized frames
Sized-tail frame frames sized k d h = sized (suc k) d (omega arith)

pub Sized-head : (frame : List ℕ) (frames : List (List ℕ)) → Sized (frame ∷ frames) → length frame ≡ frame_bytes
Sized-head frame frames sized = sized 0 [] (omega arith)

option_or-none : (o : Option ℕ) → option_or o None ≡ o
option_or-none None = refl
option_or-none (Some x) = refl

pub byte_in-below : (area : Area) (a : ℕ) → a < area.base → byte_in area a ≡ None
byte_in-below area a h = grind (arith, nat_tests)

byte_in-from : (area : Area) (a o : ℕ) → a ≡ area.base + o → byte_in area a ≡ slice_get area.bytes o
byte_in-from area a o e =
    let within : nat_lt a area.base ≡ false = grind (arith, nat_tests) in
    let offset : a - area.base ≡ o = omega arith in
    rw (within, offset)

pub byte_in-past : (area : Area) (a : ℕ) → area.base + length area.bytes ≤ a → byte_in area a ≡ None
byte_in-past area a h =
    byte_in-from area a (a - area.base) (omega arith) ∙ slice_get_past area.bytes (a - area.base) (omega arith)

-- the first of some areas, where the others don't have the address
byte_among-first : (area : Area) (others : List Area) (a : ℕ) → byte_among others a ≡ None → byte_among (area ∷ others) a ≡ byte_in area a
unfolding byte_among
byte_among-first area others a h = rw h (option_or-none (byte_in area a))

-- the others, where the first doesn't have the address
byte_among-others : (area : Area) (others : List Area) (a : ℕ) → byte_in area a ≡ None → byte_among (area ∷ others) a ≡ byte_among others a
unfolding byte_among
byte_among-others area others a h = rw h

byte_among-none : (a : ℕ) → byte_among [] a ≡ None
unfolding byte_among
byte_among-none a = refl

frame_areas-below : (d : ℕ) (frames : List (List ℕ)) (a : ℕ) → a < frame_base d → byte_among (frame_areas d frames) a ≡ None
frame_areas-below d [] a h = byte_among-none a
frame_areas-below d (frame ∷ frames) a h =
    let first : Area = record { base = frame_base d; bytes = frame } in
    byte_among-others first (frame_areas (suc d) frames) a (byte_in-below first a h) ∙ frame_areas-below (suc d) frames a (omega arith)

frame_areas-at : (d k o : ℕ) (frames : List (List ℕ)) (a : ℕ) → Sized frames → o < 0x1000 → a ≡ frame_base (d + k) + o → byte_among
    (frame_areas d frames) a ≡ option_and_then (λ frame. slice_get frame o) (slice_get frames k)
frame_areas-at d k o [] a sized h e = byte_among-none a
frame_areas-at d zero o (frame ∷ frames) a sized h e =
    let first : Area = record { base = frame_base d; bytes = frame } in
    byte_among-first first (frame_areas (suc d) frames) a (frame_areas-below (suc d) frames a (omega arith)) ∙ byte_in-from first a o (omega arith)
frame_areas-at d (suc k) o (frame ∷ frames) a sized h e =
    let first : Area = record { base = frame_base d; bytes = frame } in
    byte_among-others first (frame_areas (suc d) frames) a (byte_in-past first a (omega (arith, Sized-head frame frames sized)))
    ∙ frame_areas-at (suc d) k o frames a (Sized-tail frame frames sized) h (omega arith)

byte_among-append : (xs ys : List Area) (a : ℕ) → byte_among (xs ++ ys) a ≡ option_or (byte_among xs a) (byte_among ys a)
unfolding byte_among
byte_among-append [] ys a = refl
byte_among-append (x ∷ xs) ys a = rw (byte_among-append xs ys a) (grouped (byte_in x a) (byte_among xs a) (byte_among ys a))
  where
    grouped : (o p q : Option ℕ) → option_or o (option_or p q) ≡ option_or (option_or o p) q
    grouped None p q = refl
    grouped (Some x) p q = refl

-- the byte that the context has at an address
unfoldable pub context_byte : PrivateMemory → ℕ → Option ℕ
context_byte m a = byte_in record { base = context_base; bytes = m.context } a

-- the byte that the frames have at an address
unfoldable pub frame_byte : PrivateMemory → ℕ → Option ℕ
frame_byte m a = byte_among (frame_areas 0 m.frames.live) a

-- the byte that the packet has at an address
unfoldable pub packet_byte : PrivateMemory → ℕ → Option ℕ
packet_byte m a = byte_in record { base = packet_base; bytes = m.packet } a

byte_among-two : (x y : Area) (a : ℕ) → byte_among (x ∷ y ∷ []) a ≡ option_or (byte_in x a) (byte_in y a)
unfolding byte_among
byte_among-two x y a = ap (option_or (byte_in x a)) (option_or-none (byte_in y a))

pub byte_at-parts : (m : PrivateMemory) (a : ℕ) → byte_at m a ≡ option_or (frame_byte m a) (option_or (context_byte m a) (packet_byte m a))
unfolding byte_at frame_byte context_byte packet_byte
byte_at-parts m a =
    let context : Area = record { base = context_base; bytes = m.context } in
    let packet : Area = record { base = packet_base; bytes = m.packet } in
    byte_among-append (frame_areas 0 m.frames.live) (context ∷ packet ∷ []) a ∙ ap (option_or (byte_among (frame_areas 0 m.frames.live) a))
    (byte_among-two context packet a)

pub frame_byte-below : (m : PrivateMemory) (a : ℕ) → a < frame_base 0 → frame_byte m a ≡ None
unfolding frame_byte
frame_byte-below m a h = frame_areas-below 0 m.frames.live a h

pub frame_byte-at : (m : PrivateMemory) (a d o : ℕ) → Sized m.frames.live → a ≡ frame_base d + o → o < 0x1000 → frame_byte m a ≡
    option_and_then (λ frame. slice_get frame o) (slice_get m.frames.live d)
unfolding frame_byte
frame_byte-at m a d o sized e h = frame_areas-at 0 d o m.frames.live a sized h (omega arith)

pub context_byte-below : (m : PrivateMemory) (a : ℕ) → a < context_base → context_byte m a ≡ None
unfolding context_byte
context_byte-below m a h =
    let context : Area = record { base = context_base; bytes = m.context } in
    byte_in-below context a h

pub context_byte-at : (m : PrivateMemory) (a o : ℕ) → a ≡ context_base + o → context_byte m a ≡ slice_get m.context o
unfolding context_byte
context_byte-at m a o e =
    let context : Area = record { base = context_base; bytes = m.context } in
    byte_in-from context a o e

pub packet_byte-below : (m : PrivateMemory) (a : ℕ) → a < packet_base → packet_byte m a ≡ None
unfolding packet_byte
packet_byte-below m a h =
    let packet : Area = record { base = packet_base; bytes = m.packet } in
    byte_in-below packet a h

pub packet_byte-at : (m : PrivateMemory) (a o : ℕ) → a ≡ packet_base + o → packet_byte m a ≡ slice_get m.packet o
unfolding packet_byte
packet_byte-at m a o e =
    let packet : Area = record { base = packet_base; bytes = m.packet } in
    byte_in-from packet a o e

packet_byte-past : (m : PrivateMemory) (a : ℕ) → length m.packet ≤ max_packet → packet_base + max_packet ≤ a → packet_byte m a ≡ None
packet_byte-past m a brief h =
    packet_byte-at m a (a - packet_base) (omega arith) ∙ slice_get_past m.packet (a - packet_base) (omega arith)

-- ---- the byte at an address

pub byte_at-below : (m : PrivateMemory) (a : ℕ) → a < packet_base → byte_at m a ≡ None
byte_at-below m a h = rw (byte_at-parts, frame_byte-below m a (omega arith), context_byte-below m a (omega arith), packet_byte-below m a h)

pub byte_at-packet : (m : PrivateMemory) (a o : ℕ) → a ≡ packet_base + o → a < context_base → byte_at m a ≡ slice_get m.packet o
byte_at-packet m a o e h = rw (byte_at-parts, frame_byte-below m a (omega arith), context_byte-below m a h) (packet_byte-at m a o e)

pub byte_at-context : (m : PrivateMemory) (a o : ℕ) → length m.packet ≤ max_packet → a ≡ context_base + o → o < 0x100000000 → byte_at m a ≡
    slice_get m.context o
byte_at-context m a o brief e h =
    rw (byte_at-parts, frame_byte-below m a (omega arith), packet_byte-past m a brief (omega arith))
    (option_or-none (context_byte m a) ∙ context_byte-at m a o e)

-- within the context
pub byte_at-in_context : (m : PrivateMemory) (a o : ℕ) → a ≡ context_base + o → o < 0x100000000 → o < length m.context → byte_at m a ≡ slice_get m.context o
byte_at-in_context m a o e h within =
    let byte : slice_get m.context o ≡ Some (get_or m.context o 0) = slice_get-get_or m.context o 0 within in
    let found : context_byte m a ≡ Some (get_or m.context o 0) = context_byte-at m a o e ∙ byte in
    rw (byte_at-parts, frame_byte-below m a (omega arith), found, byte)

-- in a frame
pub byte_at-frame : (m : PrivateMemory) (a d o : ℕ) → Sized m.frames.live → a ≡ frame_base d + o → d < length m.frames.live → o < 512 →
    byte_at m a ≡ slice_get (get_or m.frames.live d []) o
byte_at-frame m a d o sized e live h =
    let frame = get_or m.frames.live d [] in
    let found : slice_get m.frames.live d ≡ Some frame = slice_get-get_or m.frames.live d [] live in
    let byte : slice_get frame o ≡ Some (get_or frame o 0) = slice_get-get_or frame o 0 (omega (arith, sized d [] live)) in
    rw (byte_at-parts, frame_byte-at m a d o sized e (omega arith), found, byte)

-- between two frames, or past the last one
pub byte_at-gap : (m : PrivateMemory) (a d o : ℕ) → length m.context ≤ max_context → length m.packet ≤ max_packet → Sized m.frames.live → a
    ≡ frame_base d + o → o < 0x1000 → (length m.frames.live ≤ d) ⊎ (512 ≤ o) → byte_at m a ≡ None
byte_at-gap m a d o small brief sized e h gap =
    let context : context_byte m a ≡ None =
    context_byte-at m a (a - context_base) (omega arith) ∙ slice_get_past m.context (a - context_base) (omega arith) in
    let packet : packet_byte m a ≡ None = packet_byte-past m a brief (omega arith) in
    rw (byte_at-parts, frame_byte-at m a d o sized e h, context, packet) (by_le (length m.frames.live) d dead live)
  where
    dead : length m.frames.live ≤ d → option_or (option_and_then (λ (frame : List ℕ). slice_get frame o) (slice_get m.frames.live d)) None ≡ None
    dead past = rw (slice_get_past m.frames.live d past)

    live : d < length m.frames.live → option_or (option_and_then (λ (frame : List ℕ). slice_get frame o) (slice_get m.frames.live d)) None ≡ None
    live within =
        let outside : 512 ≤ o = elim gap [ inl dead ↦ absurd (omega arith) | inr past ↦ past ] in
        rw (slice_get-get_or m.frames.live d [] within, slice_get_past (get_or m.frames.live d []) o (omega (arith, sized d [] within)))
