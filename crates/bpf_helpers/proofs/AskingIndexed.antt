-- Calls of helpers on an array ask the store alike.
use Rattle.std.proofs.Common.{◌≡◌, ℕ, ◌+◌, List, [], ◌∷◌, ◌++◌, length, take, drop, Option, Some, None, Result, Ok, inl, inr, ◌⊎◌, refl}
use Rattle.std.proofs.Common.{sym, ap, subst, ◌∙◌, slice_index, arith, length-drop}
use Rattle.std.proofs.lemmas.List.{append-nil, length-take}
use Rattle.std.specs.Prelude.{is_some, nat_lt, if◌then◌else◌, min}
use Rattle.bpf_base.specs.Bytes.{little_endian}
use Rattle.bpf_mem.specs.declared.memory.PrivateMemory.{PrivateMemory}
use Rattle.bpf_shared.specs.Access.{bytes_in}
use Rattle.bpf_shared.specs.declared.events.Event.{Event}
use Rattle.bpf_shared.specs.declared.events.Event.TheVariants.{Load, Store}
use Rattle.bpf_shared.specs.declared.events.Size.{Size}
use Rattle.bpf_shared.specs.declared.events.Size.TheVariants.{Word}
use Rattle.bpf_shared.specs.declared.events.Span.{Span}
use Rattle.bpf_shared.specs.declared.shapes.ArrayShape.{ArrayShape}
use Rattle.bpf_shared.specs.Shape.{Shape, fixed_span}
use Rattle.bpf_helpers.specs.declared.fault.HelperFault.{HelperFault}
use Rattle.bpf_helpers.specs.Arrays.{array_refusal, copies, parts_of}
use Rattle.bpf_helpers.specs.Calls.{Answers, CallsArray, Copies, DeletesIndex, LooksUpIndex, StopsAtKey, UpdatesIndex, copy_for}
use Rattle.bpf_helpers.specs.Reads.{IsOddKey, IsReadable, ReadsIndex, loads, no_loads}
use Rattle.bpf_helpers.specs.Laws.{AreAskedAlike}
use Rattle.bpf_helpers.proofs.Asking.{Alike, asked-cons, asked-loads, asked-none, asked-refl, asked-same, unasked}

-- ---- the key
module _ (h : Shape) (m : PrivateMemory) (held : List Span) (a : ℕ) where
  asked-index : (i j : ℕ) (first second es fs : List Event) → ReadsIndex h m held a i first → ReadsIndex h m held a j second →
      (i ≡ j → AreAskedAlike es fs) → AreAskedAlike (first ++ es) (second ++ fs)
  asked-index i j first second es fs (inl r) (inl s) behind =
      let both : Some r.0 ≡ Some s.0 = sym r.1 ∙ s.1 in
      let key : r.0 ≡ s.0 = cc in
      rw (r.3, s.3) (behind (r.2 ∙ ap little_endian key ∙ sym s.2))
  asked-index i j first second es fs (inl r) (inr s) behind = let no : Some r.0 ≡ None = sym r.1 ∙ s.0 in absurd cc
  asked-index i j first second es fs (inr r) (inl s) behind = let no : Some s.0 ≡ None = sym s.1 ∙ r.0 in absurd cc
  asked-index i j first second es fs (inr r) (inr s) behind =
      rw (r.3, s.3) (asked-cons (Load a Word i) (Load a Word j) es fs refl (λ e. let same : i ≡ j = cc in behind same))

  same_index : (i j : ℕ) (first second es fs : List Event) → ReadsIndex h m held a i first → ReadsIndex h m held a j second → first ++ es ≡
      second ++ fs → (i ≡ j) × (es ≡ fs)
  same_index i j first second es fs (inl r) (inl s) e =
      let both : Some r.0 ≡ Some s.0 = sym r.1 ∙ s.1 in
      let key : r.0 ≡ s.0 = cc in
      let rest : [] ++ es ≡ [] ++ fs = rw (r.3, s.3) at e in
      (r.2 ∙ ap little_endian key ∙ sym s.2, rest)
  same_index i j first second es fs (inl r) (inr s) e = let no : Some r.0 ≡ None = sym r.1 ∙ s.0 in absurd cc
  same_index i j first second es fs (inr r) (inl s) e = let no : Some s.0 ≡ None = sym s.1 ∙ r.0 in absurd cc
  same_index i j first second es fs (inr r) (inr s) e =
      let whole : Load a Word i ∷ es ≡ Load a Word j ∷ fs = rw (r.3, s.3) at e in
      let one : Load a Word i ≡ Load a Word j = cc in
      (cc, cc)

  index_readable : (i : ℕ) (events : List Event) → ReadsIndex h m held a i events → IsReadable h m held a 4
  index_readable i events (inl r) = inl (ap is_some r.1)
  index_readable i events (inr r) = inr r.1

  index_even : (i : ℕ) (events : List Event) → ReadsIndex h m held a i events → IsOddKey h m held a → ⊥
  index_even i events (inl r) odd = let no : Some r.0 ≡ None = sym r.1 ∙ odd.0 in cc
  index_even i events (inr r) odd = odd.2 r.2

-- ---- copying
asked-copied : (from to : ℕ) (sizes : List Size) (v w : List ℕ) → length v ≡ length w → AreAskedAlike (copies loads from to sizes v)
    (copies loads from to sizes w)
asked-copied from to [] v w e = asked-none
asked-copied from to (size ∷ sizes) v w e =
    let k = bytes_in size in
    let parts : length (take k v) ≡ length (take k w) = length-take k v ∙ ap (min k) e ∙ sym (length-take k w) in
    let rest : length (drop k v) ≡ length (drop k w) = omega (arith, length-drop k v, length-drop k w) in
    asked-loads from (take k v) (take k w) _ _ parts (λ same.
    asked-cons (Store to size (little_endian (take k v))) (Store to size (little_endian (take k w))) _ _ (ap (λ l. Store to size (little_endian l)) same) (λ _.
    asked-copied (from + k) (to + k) sizes (drop k v) (drop k w) rest))

copied : (m : PrivateMemory) (from to n : ℕ) (es fs : List Event) → Copies m from to n es → Copies m from to n fs → AreAskedAlike es fs
copied m from to n es fs (inl r) (inl s) =
    let both : Some r.0 ≡ Some s.0 = sym r.1 ∙ s.1 in
    let value : r.0 ≡ s.0 = cc in
    let same : es ≡ fs = r.2 ∙ ap (copies no_loads from to (parts_of n)) value ∙ sym s.2 in
    subst (AreAskedAlike es) same (asked-refl es)
copied m from to n es fs (inl r) (inr s) = let no : Some r.0 ≡ None = sym r.1 ∙ s.1 in absurd cc
copied m from to n es fs (inr r) (inl s) = let no : Some s.0 ≡ None = sym s.1 ∙ r.1 in absurd cc
copied m from to n es fs (inr r) (inr s) =
    asked-same es fs (copies loads from to (parts_of n) r.0) (copies loads from to (parts_of n) s.0) r.3 s.3
    (asked-copied from to (parts_of n) r.0 s.0 (r.2 ∙ sym s.2))

lacked : {K V : Type 0} → (¬ K) ⊎ (¬ V) → K → V → ⊥
lacked (inl f) k v = f k
lacked (inr f) k v = f v

module _ (shape : Shape) (memory : PrivateMemory) (registers : List ℕ) (held : List Span) where
  answered : (to n : ℕ) (o : Option ℕ) (es fs : List Event) (result end : Result ℕ HelperFault) → Answers shape memory registers held to n o
      es result → Answers shape memory registers held to n o fs end → AreAskedAlike es fs × (result ≡ end)
  answered to n (Some x) es fs result end r s = (asked-same es fs [] [] r.0 s.0 asked-none, r.1 ∙ sym s.1)
  answered to n None es fs result end r s = (copied memory (slice_index registers 3) to n es fs r.1 s.1, r.0 ∙ sym s.0)

  module _ (cpu a : ℕ) (g : ArrayShape) (after other : List Span) (events others : List Event) (result end : Result ℕ HelperFault) where
    stopped : StopsAtKey shape memory registers held events result after → StopsAtKey shape memory registers held others end other → Alike
        events others result end after other
    stopped (inl r) (inl s) = unasked events others result end after other r.1.0 s.1.0 (r.1.1 ∙ sym s.1.1) (r.1.2 ∙ sym s.1.2)
    stopped (inl r) (inr s) = absurd (r.0 (inr s.0.1))
    stopped (inr r) (inl s) = absurd (s.0 (inr r.0.1))
    stopped (inr r) (inr s) = unasked events others result end after other r.1.0 s.1.0 (r.1.1 ∙ sym s.1.1) (r.1.2 ∙ sym s.1.2)

    index_looked_up : LooksUpIndex shape memory registers held cpu a g events result after → LooksUpIndex shape memory registers held cpu a
        g others end other → Alike events others result end after other
    index_looked_up (inl r) (inl s) = stopped r s
    index_looked_up (inl (inl r)) (inr s) = absurd (r.0 (index_readable shape memory held (slice_index registers 2) s.0 others s.1))
    index_looked_up (inl (inr r)) (inr s) = absurd (index_even shape memory held (slice_index registers 2) s.0 others s.1 r.0)
    index_looked_up (inr r) (inl (inl s)) = absurd (s.0 (index_readable shape memory held (slice_index registers 2) r.0 events r.1))
    index_looked_up (inr r) (inl (inr s)) = absurd (index_even shape memory held (slice_index registers 2) r.0 events r.1 s.0)
    index_looked_up (inr r) (inr s) = record {
      asks = asked-same events others (events ++ []) (others ++ []) (sym (append-nil events)) (sym (append-nil others))
          (asked-index shape memory held (slice_index registers 2) r.0 s.0 events others [] [] r.1 s.1 (λ _. asked-none));
      replied = λ e.
          let same = same_index shape memory held (slice_index registers 2) r.0 s.0 events others [] [] r.1 s.1 (ap (λ (l : List Event). l ++ []) e) in
          (r.2 ∙ ap (λ (i : ℕ). Ok (if nat_lt i g.max then (fixed_span a g (copy_for cpu g) i).at else 0)) same.0 ∙ sym s.2, r.3 ∙ sym s.3);
    }

    index_updated : UpdatesIndex shape memory registers held cpu a g events result after → UpdatesIndex shape memory registers held cpu a g
        others end other → Alike events others result end after other
    index_updated (inl r) (inl s) = unasked events others result end after other r.1.0 s.1.0 (r.1.1 ∙ sym s.1.1) (r.1.2 ∙ sym s.1.2)
    index_updated (inl r) (inr (inl s)) = absurd (lacked r.0 (inr s.1.1) s.0)
    index_updated (inl r) (inr (inr s)) = absurd (lacked r.0 (index_readable shape memory held (slice_index registers 2) s.0 s.1 s.4) s.3)
    index_updated (inr (inl r)) (inl s) = absurd (lacked s.0 (inr r.1.1) r.0)
    index_updated (inr (inl r)) (inr (inl s)) = unasked events others result end after other r.2.0 s.2.0 (r.2.1 ∙ sym s.2.1) (r.2.2 ∙ sym s.2.2)
    index_updated (inr (inl r)) (inr (inr s)) = absurd (index_even shape memory held (slice_index registers 2) s.0 s.1 s.4 r.1)
    index_updated (inr (inr r)) (inl s) = absurd (lacked s.0 (index_readable shape memory held (slice_index registers 2) r.0 r.1 r.4) r.3)
    index_updated (inr (inr r)) (inr (inl s)) = absurd (index_even shape memory held (slice_index registers 2) r.0 r.1 r.4 s.1)
    index_updated (inr (inr r)) (inr (inr s)) =
        let P : ℕ → Type 0 = λ i. Answers shape memory registers held (fixed_span a g (copy_for cpu g) i).at g.value
        (array_refusal g i (slice_index registers 4)) s.2 end in
        let both : (i : ℕ) → r.0 ≡ s.0 → AreAskedAlike r.2 s.2 × (result ≡ end) = λ i same.
        answered (fixed_span a g (copy_for cpu g) r.0).at g.value (array_refusal g r.0 (slice_index registers 4)) r.2 s.2 result end r.6
        (subst P (sym same) s.6) in
        record {
          asks = asked-same events others (r.1 ++ r.2) (s.1 ++ s.2) r.5 s.5
              (asked-index shape memory held (slice_index registers 2) r.0 s.0 r.1 s.1 r.2 s.2 r.4 s.4 (λ same. (both 0 same).0));
          replied = λ e.
              let same = same_index shape memory held (slice_index registers 2) r.0 s.0 r.1 s.1 r.2 s.2 r.4 s.4 (sym r.5 ∙ e ∙ s.5) in
              ((both 0 same.0).1, r.7 ∙ sym s.7);
        }

    index_deleted : DeletesIndex shape memory registers held events result after → DeletesIndex shape memory registers held others end other
        → Alike events others result end after other
    index_deleted (inl r) (inl s) = stopped r s
    index_deleted (inl (inl r)) (inr s) = absurd (r.0 s.0)
    index_deleted (inl (inr r)) (inr s) = absurd (s.1 r.0)
    index_deleted (inr r) (inl (inl s)) = absurd (s.0 r.0)
    index_deleted (inr r) (inl (inr s)) = absurd (r.1 s.0)
    index_deleted (inr r) (inr s) = unasked events others result end after other r.2 s.2 (r.3 ∙ sym s.3) (r.4 ∙ sym s.4)

    pub array_called : (n : ℕ) → CallsArray shape memory registers held cpu a g n events result after → CallsArray shape memory registers
        held cpu a g n others end other → Alike events others result end after other
    array_called n (inl r) (inl s) = index_looked_up r.1 s.1
    array_called n (inl r) (inr (inl s)) = absurd (let a = r.0 in let b = s.0 in omega arith)
    array_called n (inl r) (inr (inr s)) = absurd (let a = r.0 in let b = s.0 in omega arith)
    array_called n (inr (inl r)) (inl s) = absurd (let a = r.0 in let b = s.0 in omega arith)
    array_called n (inr (inl r)) (inr (inl s)) = index_updated r.1 s.1
    array_called n (inr (inl r)) (inr (inr s)) = absurd (let a = r.0 in let b = s.0 in omega arith)
    array_called n (inr (inr r)) (inl s) = absurd (let a = r.0 in let b = s.0 in omega arith)
    array_called n (inr (inr r)) (inr (inl s)) = absurd (let a = r.0 in let b = s.0 in omega arith)
    array_called n (inr (inr r)) (inr (inr s)) = index_deleted r.1 s.1
