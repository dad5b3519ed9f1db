-- Calls that ask the store alike: lists of events, what is read, and what stops.
use Rattle.std.proofs.Common.{◌≡◌, ℕ, suc, List, [], ◌∷◌, ◌++◌, length, Some, None, Result, inl, inr, refl, sym, ap, ◌∙◌, arith}
use Rattle.std.specs.Prelude.{is_some}
use Rattle.bpf_mem.specs.declared.memory.PrivateMemory.{PrivateMemory}
use Rattle.bpf_shared.specs.Laws.{asked}
use Rattle.bpf_shared.specs.declared.events.Event.{Event}
use Rattle.bpf_shared.specs.declared.events.Event.TheVariants.{Load}
use Rattle.bpf_shared.specs.declared.events.Size.TheVariants.{Byte}
use Rattle.bpf_shared.specs.declared.events.Span.{Span}
use Rattle.bpf_shared.specs.Shape.{Shape}
use Rattle.bpf_helpers.specs.declared.fault.HelperFault.{HelperFault}
use Rattle.bpf_helpers.specs.Reads.{IsReadable, Reads, loads}
use Rattle.bpf_helpers.specs.Laws.{first_call, AreAskedAlike}

-- ---- lists of events

-- the first calls are the same, and after equal replies the others are alike
pub asked-cons : (e f : Event) (es fs : List Event) → asked e ≡ asked f → (e ≡ f → AreAskedAlike es fs) → AreAskedAlike (e ∷ es) (f ∷ fs)
asked-cons e f es fs same behind [] rest later g h = sym (ap first_call g) ∙ ap Some same ∙ ap first_call h
asked-cons e f es fs same behind (b ∷ bs) rest later g h =
    let left : e ≡ b = cc in
    let right : f ≡ b = cc in
    let g' : es ≡ bs ++ rest = cc in
    let h' : fs ≡ bs ++ later = cc in
    behind (left ∙ sym right) bs rest later g' h'

nothing_behind : (before rest : List Event) → [] ≡ before ++ rest → rest ≡ []
nothing_behind [] rest e = sym e
nothing_behind (b ∷ bs) rest e = absurd cc

pub asked-none : AreAskedAlike [] []
asked-none before rest later g h = ap first_call (nothing_behind before rest g) ∙ sym (ap first_call (nothing_behind before later h))

-- loads of as many bytes, and what comes after equal ones
pub asked-loads : (a : ℕ) (bytes others : List ℕ) (es fs : List Event) → length bytes ≡ length others →
    (bytes ≡ others → AreAskedAlike es fs) → AreAskedAlike (loads a bytes ++ es) (loads a others ++ fs)
asked-loads a [] [] es fs n behind = behind refl
asked-loads a [] (y ∷ ys) es fs n behind = absurd (omega arith)
asked-loads a (x ∷ xs) [] es fs n behind = absurd (omega arith)
asked-loads a (x ∷ xs) (y ∷ ys) es fs n behind =
    asked-cons (Load a Byte x) (Load a Byte y) (loads (suc a) xs ++ es) (loads (suc a) ys ++ fs) refl (λ e.
    asked-loads (suc a) xs ys es fs (omega arith) (λ tail.
    let head : x ≡ y = cc in
    behind cc))

-- equal loads are of equal bytes
pub same_loads : (a : ℕ) (bytes others : List ℕ) (es fs : List Event) → length bytes ≡ length others → loads a bytes ++ es ≡ loads a others
    ++ fs → (bytes ≡ others) × (es ≡ fs)
same_loads a [] [] es fs n e = (refl, e)
same_loads a [] (y ∷ ys) es fs n e = absurd (omega arith)
same_loads a (x ∷ xs) [] es fs n e = absurd (omega arith)
same_loads a (x ∷ xs) (y ∷ ys) es fs n e =
    let first : Load a Byte x ≡ Load a Byte y = cc in
    let head : x ≡ y = cc in
    let behind : loads (suc a) xs ++ es ≡ loads (suc a) ys ++ fs = cc in
    let same = same_loads (suc a) xs ys es fs (omega arith) behind in
    let tail : xs ≡ ys = same.0 in
    (cc, same.1)

-- ---- reading

module _ (h : Shape) (m : PrivateMemory) (held : List Span) (a n : ℕ) where
  -- what is read after equal replies is the same, and so is what comes after it
  pub asked-reads : (bytes others : List ℕ) (first second es fs : List Event) → Reads h m held a n bytes first → Reads h m held a n others
      second → (bytes ≡ others → AreAskedAlike es fs) → AreAskedAlike (first ++ es) (second ++ fs)
  asked-reads bytes others first second es fs (inl r) (inl s) behind =
      let same : bytes ≡ others = let e : Some bytes ≡ Some others = sym r.0 ∙ s.0 in cc in
      rw (r.1, s.1) (behind same)
  asked-reads bytes others first second es fs (inl r) (inr s) behind = let no : Some bytes ≡ None = sym r.0 ∙ s.0 in absurd cc
  asked-reads bytes others first second es fs (inr r) (inl s) behind = let no : Some others ≡ None = sym s.0 ∙ r.0 in absurd cc
  asked-reads bytes others first second es fs (inr r) (inr s) behind =
      rw (r.3, s.3) (asked-loads a bytes others es fs (r.2 ∙ sym s.2) behind)

  pub same_reads : (bytes others : List ℕ) (first second es fs : List Event) → Reads h m held a n bytes first → Reads h m held a n others
      second → first ++ es ≡ second ++ fs → (bytes ≡ others) × (es ≡ fs)
  same_reads bytes others first second es fs (inl r) (inl s) e =
      let same : bytes ≡ others = let e : Some bytes ≡ Some others = sym r.0 ∙ s.0 in cc in
      let both : [] ++ es ≡ [] ++ fs = rw (r.1, s.1) at e in
      (same, both)
  same_reads bytes others first second es fs (inl r) (inr s) e = let no : Some bytes ≡ None = sym r.0 ∙ s.0 in absurd cc
  same_reads bytes others first second es fs (inr r) (inl s) e = let no : Some others ≡ None = sym s.0 ∙ r.0 in absurd cc
  same_reads bytes others first second es fs (inr r) (inr s) e =
      let both : loads a bytes ++ es ≡ loads a others ++ fs = rw (r.3, s.3) at e in
      same_loads a bytes others es fs (r.2 ∙ sym s.2) both

  -- what is read can be read
  pub readable : (bytes : List ℕ) (events : List Event) → Reads h m held a n bytes events → IsReadable h m held a n
  readable bytes events (inl r) = inl (ap is_some r.0)
  readable bytes events (inr r) = inr r.1

-- ---- calls

-- asked alike, and the same where the replies are
pub record Alike (events others : List Event) (result end : Result ℕ HelperFault) (after other : List Span) : Type 0 where
  pub asks : AreAskedAlike events others
  pub replied : events ≡ others → (result ≡ end) × (after ≡ other)

pub asked-same : (events others es fs : List Event) → events ≡ es → others ≡ fs → AreAskedAlike es fs → AreAskedAlike events others
asked-same events others es fs e f alike = rw (e, f) alike

pub unasked : (events others : List Event) (result end : Result ℕ HelperFault) (after other : List Span) → events ≡ [] → others ≡ [] →
    result ≡ end → after ≡ other → Alike events others result end after other
unasked events others result end after other e f same held = record {
  asks = asked-same events others [] [] e f asked-none;
  replied = λ _. (same, held);
}

pub asked-refl : (es : List Event) → AreAskedAlike es es
asked-refl [] = asked-none
asked-refl (e ∷ es) = asked-cons e e es es refl (λ _. asked-refl es)
