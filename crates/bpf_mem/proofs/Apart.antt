-- Where the areas of the memory of a CPU lie.
use Rattle.std.proofs.Common.{◌≡◌, ℕ, zero, suc, ◌+◌, ◌<◌, ◌≤◌, List, [], ◌∷◌, ◌++◌, length, refl, sym, ap, ◌∙◌, arith, ◌⊎◌, inl, inr}
use Rattle.std.specs.Prelude.{Some, None, slice_get}
use Rattle.bpf_mem.specs.declared.memory.PrivateMemory.{PrivateMemory}
use Rattle.bpf_mem.specs.Addresses.{context_base, frame_base, packet_base}
use Rattle.bpf_mem.specs.Laws.{AreasAreApart, IsMemory}
use Rattle.bpf_mem.specs.Limits.{max_context, max_packet, frame_bytes}
use Rattle.bpf_mem.specs.Memory.{Area, areas, frame_areas, byte_in}
use Rattle.bpf_mem.proofs.AreaLemmas.{Sized, Sized-head, Sized-tail, by_le, byte_in-below, byte_in-past}

-- an address at which an area has a byte
record IsInside (area : Area) (address : ℕ) : Type 0 where
  since : area.base ≤ address
  before : address < area.base + length area.bytes

inside : (area : Area) (address byte : ℕ) → byte_in area address ≡ Some byte → IsInside area address
inside area address byte e =
    by_le area.base address
    (λ since. by_le (area.base + length area.bytes) address
    (λ past. let none : byte_in area address ≡ None = byte_in-past area address past in absurd cc)
    (λ before. record { since = since; before = before }))
    (λ below. let none : byte_in area address ≡ None = byte_in-below area address below in absurd cc)

-- the i-th of n frames
record IsFrame (n i : ℕ) (area : Area) : Type 0 where
  live : i < n
  base : area.base ≡ frame_base i
  size : length area.bytes ≡ frame_bytes

-- what follows them
record IsContext (n i : ℕ) (context : List ℕ) (area : Area) : Type 0 where
  last : i ≡ n
  base : area.base ≡ context_base
  size : length area.bytes ≡ length context

-- and the last
record IsPacket (n i : ℕ) (packet : List ℕ) (area : Area) : Type 0 where
  last : i ≡ n + 1
  base : area.base ≡ packet_base
  size : length area.bytes ≡ length packet

which : (d i : ℕ) (frames : List (List ℕ)) (context packet : List ℕ) (area : Area) → Sized frames
    → slice_get (frame_areas d frames ++ record { base = context_base; bytes = context } ∷ record { base = packet_base; bytes = packet } ∷ []) i ≡ Some area
    → IsFrame (d + length frames) (d + i) area ⊎ IsContext (d + length frames) (d + i) context area ⊎ IsPacket (d + length frames) (d + i) packet area
which d zero [] context packet area sized e =
    let first : Area = record { base = context_base; bytes = context } in
    let same : first ≡ area = cc in
    inr (inl (record { last = refl; base = ap (λ (x : Area). x.base) (sym same); size = ap (λ (x : Area). length x.bytes) (sym same) }))
which d (suc zero) [] context packet area sized e =
    let last : Area = record { base = packet_base; bytes = packet } in
    let same : last ≡ area = cc in
    inr (inr (record { last = omega arith; base = ap (λ (x : Area). x.base) (sym same); size = ap (λ (x : Area). length x.bytes) (sym same) }))
which d (suc (suc i)) [] context packet area sized e = cc
which d zero (frame ∷ frames) context packet area sized e =
    let first : Area = record { base = frame_base d; bytes = frame } in
    let same : first ≡ area = cc in
    let base : area.base ≡ frame_base d = ap (λ (x : Area). x.base) (sym same) in
    let size : length area.bytes ≡ length frame = ap (λ (x : Area). length x.bytes) (sym same) in
    let whole : length frame ≡ frame_bytes = Sized-head frame frames sized in
    inl (record { live = omega arith; base = omega arith; size = omega arith })
which d (suc i) (frame ∷ frames) context packet area sized e = elim (which (suc d) i frames context packet area (Sized-tail frame frames sized) e) [
  | inl f ↦ inl (record { live = (let h = f.live in omega arith); base = (let h = f.base in omega arith); size = f.size })
  | inr others ↦ elim others [
    | inl c ↦ inr (inl (record { last = (let h = c.last in omega arith); base = c.base; size = c.size }))
    | inr p ↦ inr (inr (record { last = (let h = p.last in omega arith); base = p.base; size = p.size }))
  ]
]

-- where an area is, and which it is
abbrev Lies : ℕ → ℕ → Area → Type 0
Lies n i area =
    ((i < n) × (area.base ≡ frame_base i) × (length area.bytes ≡ frame_bytes))
    ⊎ ((i ≡ n) × (area.base ≡ context_base) × (length area.bytes ≤ max_context))
    ⊎ ((i ≡ n + 1) × (area.base ≡ packet_base) × (length area.bytes ≤ max_packet))

lies : (i : ℕ) (m : PrivateMemory) (area : Area) → IsMemory m → slice_get (areas m) i ≡ Some area → Lies (length m.frames.live) i area
lies i m area sound e = elim (which 0 i m.frames.live m.context m.packet area sound.stack.sized e) [
  | inl f ↦ inl ((let h = f.live in omega arith), (let h = f.base in omega arith), f.size)
  | inr others ↦ elim others [
    | inl c ↦ inr (inl ((let h = c.last in omega arith), c.base, (let h = c.size in let s = sound.small in omega arith)))
    | inr p ↦ inr (inr ((let h = p.last in omega arith), p.base, (let h = p.size in let s = sound.brief in omega arith)))
  ]
]

one : (n i j : ℕ) (a b : Area) (address : ℕ) → Lies n i a → Lies n j b → IsInside a address → IsInside b address → i ≡ j
one n i j a b address (inl f) (inl g) p q = (let f0 = f.0 in let f1 = f.1 in let f2 = f.2 in let g0 = g.0 in let g1 = g.1 in let g2 = g.2 in omega arith)
one n i j a b address (inl f) (inr (inl g)) p q = (let f0 = f.0 in let f1 = f.1 in let f2 = f.2 in let g0 = g.0 in let g1 = g.1 in let g2 = g.2 in omega arith)
one n i j a b address (inl f) (inr (inr g)) p q = (let f0 = f.0 in let f1 = f.1 in let f2 = f.2 in let g0 = g.0 in let g1 = g.1 in let g2 = g.2 in omega arith)
one n i j a b address (inr (inl f)) (inl g) p q = (let f0 = f.0 in let f1 = f.1 in let f2 = f.2 in let g0 = g.0 in let g1 = g.1 in let g2 = g.2 in omega arith)
one n i j a b address (inr (inl f)) (inr (inl g)) p q = f.0 ∙ sym g.0
one n i j a b address (inr (inl f)) (inr (inr g)) p q =
    (let f0 = f.0 in let f1 = f.1 in let f2 = f.2 in let g0 = g.0 in let g1 = g.1 in let g2 = g.2 in omega arith)
one n i j a b address (inr (inr f)) (inl g) p q = (let f0 = f.0 in let f1 = f.1 in let f2 = f.2 in let g0 = g.0 in let g1 = g.1 in let g2 = g.2 in omega arith)
one n i j a b address (inr (inr f)) (inr (inl g)) p q =
    (let f0 = f.0 in let f1 = f.1 in let f2 = f.2 in let g0 = g.0 in let g1 = g.1 in let g2 = g.2 in omega arith)
one n i j a b address (inr (inr f)) (inr (inr g)) p q = f.0 ∙ sym g.0

pub areas_are_apart : AreasAreApart
areas_are_apart m i j a b address byte other sound ea eb x y =
    one (length m.frames.live) i j a b address (lies i m a sound ea) (lies j m b sound eb) (inside a address byte x) (inside b address other y)
