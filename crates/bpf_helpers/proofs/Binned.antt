-- Spans in bins: what a walk through one bin finds, and one span more.
use Rattle.std.proofs.Common.{◌≡◌, ℕ, zero, suc, ◌+◌, ◌-◌, ◌<◌, ◌≤◌, Bool, true, false, List, [], ◌∷◌, ◌++◌, length, Some, inl, inr, ◌⊎◌}
use Rattle.std.proofs.Common.{refl, sym, ap, subst, ◌∙◌, ◌==◌, ◌||◌, slice_get, slice_index, arith, get_or, set}
use Rattle.std.specs.List.{list_any}
use Rattle.std.proofs.Math.ListN.{replicate}
use Rattle.std.proofs.lemmas.Bool.{cases_eq, and_parts, eqb-true}
use Rattle.std.proofs.lemmas.List.{get_or-set_same, get_or-set_other, length_push}
use Rattle.std.proofs.lemmas.Option.{slice_get_within}
use Rattle.bpf_shared.specs.declared.events.Span.{Span}
use Rattle.bpf_shared.specs.Passage.{same_span}
use Rattle.bpf_helpers.specs.Held.{has_span}
use Rattle.bpf_helpers.specs.Private.Bins.{AreBinned, bin_of}

-- ---- a test of some span
pub or_true : (b : Bool) → b || true ≡ true
or_true true = refl
or_true false = refl

pub any_at : (f : Span → Bool) (spans : List Span) (k : ℕ) (p : Span) → slice_get spans k ≡ Some p → f p ≡ true → list_any f spans ≡ true
any_at f [] k p e t = cc
any_at f (x ∷ xs) zero p e t =
    let same : x ≡ p = cc in
    let first : f x ≡ true = ap f same ∙ t in
    ap (λ (b : Bool). b || list_any f xs) first
any_at f (x ∷ xs) (suc k) p e t = ap (λ (b : Bool). f x || b) (any_at f xs k p e t) ∙ or_true (f x)

pub none_of : (f : Span → Bool) (spans : List Span) → ((k : ℕ) (p : Span) → slice_get spans k ≡ Some p → f p ≡ false) → list_any f spans ≡ false
none_of f [] h = refl
none_of f (x ∷ xs) h = ap (λ (b : Bool). b || list_any f xs) (h 0 x refl) ∙ none_of f xs (λ k p e. h (suc k) p e)

pub same_parts : (p q : Span) → same_span p q ≡ true → (p.at ≡ q.at) × (p.size ≡ q.size)
same_parts p q e =
    let parts = and_parts (p.at == q.at) (p.size == q.size) e in
    (eqb-true p.at q.at parts.0, eqb-true p.size q.size parts.1)

pub settled : (b : Bool) → (b ≡ true → ⊥) → b ≡ false
settled true h = absurd (h refl)
settled false h = refl

-- ---- a walk through the bin of a span, at this number
pub record IsAt (spans : List Span) (span : Span) (number : ℕ) : Type 0 where
  pub few : number ≤ length spans - 1
  pub known : (k : ℕ) (p : Span) → slice_get spans k ≡ Some p → same_span p span ≡ true → k ≤ number
  pub own : (q : Span) → slice_get spans number ≡ Some q → 0 < number → bin_of q.at ≡ bin_of span.at

pub begun : (latest earlier : List ℕ) (spans : List Span) (span : Span) → AreBinned latest earlier spans → IsAt spans span (slice_index latest (bin_of span.at))
begun latest earlier spans span are = record {
  few = are.few (bin_of span.at);
  known = λ k p e same.
      let at : p.at ≡ span.at = (same_parts p span same).0 in
      subst (λ (a : ℕ). k ≤ slice_index latest (bin_of a)) at (are.last k p e);
  own = λ q e pos. are.own (bin_of span.at) q e pos;
}

apart : (spans : List Span) (span : Span) (n k : ℕ) (p q : Span) → slice_get spans n ≡ Some q → slice_get spans k ≡ Some p
    → same_span q span ≡ false → same_span p span ≡ true → k ≡ n → ⊥
apart spans span n k p q en ek other same e =
    let at : slice_get spans k ≡ slice_get spans n = ap (λ (i : ℕ). slice_get spans i) e in
    let one : p ≡ q = cc in
    let test : same_span p span ≡ same_span q span = ap (λ (x : Span). same_span x span) one in
    absurd cc

lower : (k n : ℕ) → (k ≡ n → ⊥) → k ≤ n → (k ≡ n) ⊎ (k ≡ n → ⊥) → k < n
lower k n ne le (inl e) = absurd (ne e)
lower k n ne le (inr d) = omega arith

below : (k n : ℕ) → (k ≡ n → ⊥) → k ≤ n → k < n
below k n ne le = lower k n ne le (cases_eq k n)

pub stepped : (latest earlier : List ℕ) (spans : List Span) (span : Span) (n : ℕ) (q : Span) → AreBinned latest earlier spans
    → slice_get spans n ≡ Some q → same_span q span ≡ false → 0 < n → IsAt spans span n → IsAt spans span (slice_index earlier n)
stepped latest earlier spans span n q are e other pos at =
    let within : n < length spans = slice_get_within spans n q e in
    let fall : slice_index earlier n ≤ n - 1 = are.falling n within in
    let same_bin : bin_of q.at ≡ bin_of span.at = at.own q e pos in
    record {
      few = omega arith;
      known = λ k p ek same.
          let lt : k < n = below k n (apart spans span n k p q e ek other same) (at.known k p ek same) in
          let start : bin_of p.at ≡ bin_of span.at = ap bin_of (same_parts p span same).0 in
          are.next k n p q ek e lt (start ∙ sym same_bin);
      own = λ r er pr. are.alike n q r e er pr ∙ same_bin;
    }

pub found : (spans : List Span) (span : Span) (n : ℕ) (q : Span) → slice_get spans n ≡ Some q → same_span q span ≡ true → has_span spans span ≡ true
found spans span n q e same = any_at (λ (p : Span). same_span p span) spans n q e same

pub missed : (spans : List Span) (span q : Span) → slice_get spans 0 ≡ Some q → same_span q span ≡ false → IsAt spans span 0 → has_span spans span ≡ false
missed spans span q e other at = none_of (λ (p : Span). same_span p span) spans (λ k p ek.
    settled (same_span p span) (λ same.
    let le : k ≤ 0 = at.known k p ek same in
    apart spans span 0 k p q e ek other same (omega arith)))

pub none_left : (spans : List Span) (span : Span) (n : ℕ) → length spans ≤ n → IsAt spans span n → has_span spans span ≡ false
none_left spans span n past at = none_of (λ (p : Span). same_span p span) spans (λ k p ek.
    let within : k < length spans = slice_get_within spans k p ek in
    let few : n ≤ length spans - 1 = at.few in
    absurd (omega arith))

-- ---- no span
zeros : (m b : ℕ) → get_or (replicate {A = ℕ} m 0) b 0 ≡ 0
zeros zero b = refl
zeros (suc m) zero = refl
zeros (suc m) (suc b) = zeros m b

pub none_binned : AreBinned (replicate {A = ℕ} 512 0) (replicate {A = ℕ} 256 0) []
none_binned = record {
  few = λ b. let none : get_or (replicate {A = ℕ} 512 0) b 0 ≡ 0 = zeros 512 b in omega arith;
  falling = λ n h. absurd (omega arith);
  own = λ b q e pos. absurd cc;
  alike = λ n p q e f pos. absurd cc;
  last = λ k p e. absurd cc;
  next = λ k n p q e f lt same. absurd cc;
}

-- ---- one span more
risen : {P Q : Type 0} {k n : ℕ} → ((k < n) × P) ⊎ ((k ≡ n) × Q) → ((suc k < suc n) × P) ⊎ ((suc k ≡ suc n) × Q)
risen (inl h) = let lt = h.0 in inl (omega arith, h.1)
risen (inr h) = inr (ap suc h.0, h.1)

split : (spans : List Span) (s : Span) (k : ℕ) (p : Span) → slice_get (spans ++ s ∷ []) k ≡ Some p
    → ((k < length spans) × (slice_get spans k ≡ Some p)) ⊎ ((k ≡ length spans) × (p ≡ s))
split [] s zero p e = inr (refl, cc)
split [] s (suc k) p e = absurd cc
split (x ∷ xs) s zero p e = inl (omega arith, e)
split (x ∷ xs) s (suc k) p e = risen (split xs s k p e)

written_at : (l : List ℕ) (i v j : ℕ) → i < length l → (j ≡ i) ⊎ (j ≡ i → ⊥) → ((j ≡ i) × (get_or (set l i v) j 0 ≡ v)) ⊎
    ((j ≡ i → ⊥) × (get_or (set l i v) j 0 ≡ get_or l j 0))
written_at l i v j h (inl e) = inl (e, ap (λ (x : ℕ). get_or (set l i v) x 0) e ∙ get_or-set_same l i v 0 h)
written_at l i v j h (inr d) = inr (d, get_or-set_other l i j v 0 d)

pub written : (l : List ℕ) (i v j : ℕ) → i < length l → ((j ≡ i) × (get_or (set l i v) j 0 ≡ v)) ⊎ ((j ≡ i → ⊥) × (get_or (set l i v) j 0 ≡ get_or l j 0))
written l i v j h = written_at l i v j h (cases_eq j i)

module _ (latest earlier : List ℕ) (spans : List Span) (s : Span) (b n : ℕ) (number : n ≡ length spans) (bin : b ≡ bin_of s.at)
    (bins : b < length latest) (room : n < length earlier) (are : AreBinned latest earlier spans) where
  abbrev latest' : List ℕ
  latest' = set latest b n

  abbrev earlier' : List ℕ
  earlier' = set earlier n (get_or latest b 0)

  longer : length (spans ++ s ∷ []) ≡ n + 1
  longer = ap (λ (k : ℕ). k) (length_push spans s) ∙ ap (λ (k : ℕ). k + 1) (sym number)

  few_more : (c : ℕ) → ((c ≡ b) × (get_or latest' c 0 ≡ n)) ⊎ ((c ≡ b → ⊥) × (get_or latest' c 0 ≡ get_or latest c 0)) → get_or latest' c 0
      ≤ length (spans ++ s ∷ []) - 1
  few_more c (inl h) = let e = h.1 in let l = longer in omega arith
  few_more c (inr h) =
      let e : get_or latest' c 0 ≡ get_or latest c 0 = h.1 in
      let l = longer in
      let old : get_or latest c 0 ≤ length spans - 1 = are.few c in
      omega arith

  falling_more : (k : ℕ) → k < length (spans ++ s ∷ []) → ((k ≡ n) × (get_or earlier' k 0 ≡ get_or latest b 0)) ⊎
      ((k ≡ n → ⊥) × (get_or earlier' k 0 ≡ get_or earlier k 0)) → get_or earlier' k 0 ≤ k - 1
  falling_more k h (inl at) =
      let e : get_or earlier' k 0 ≡ get_or latest b 0 = at.1 in
      let here : k ≡ n = at.0 in
      let old : get_or latest b 0 ≤ length spans - 1 = are.few b in
      omega arith
  falling_more k h (inr at) =
      let e : get_or earlier' k 0 ≡ get_or earlier k 0 = at.1 in
      let l = longer in
      let lt : k < n = lower k n at.0 (omega arith) (inr at.0) in
      let old : get_or earlier k 0 ≤ k - 1 = are.falling k (omega arith) in
      omega arith

  own_more : (c : ℕ) (q : Span) → 0 < get_or latest' c 0
      → ((c ≡ b) × (get_or latest' c 0 ≡ n)) ⊎ ((c ≡ b → ⊥) × (get_or latest' c 0 ≡ get_or latest c 0))
      → ((get_or latest' c 0 < length spans) × (slice_get spans (get_or latest' c 0) ≡ Some q)) ⊎ ((get_or latest' c 0 ≡ length spans) × (q ≡ s))
      → bin_of q.at ≡ c
  own_more c q pos (inl h) (inl old) = let e = h.1 in let lt = old.0 in absurd (omega arith)
  own_more c q pos (inl h) (inr new) = ap (λ (x : Span). bin_of x.at) new.1 ∙ (sym bin ∙ sym h.0)
  own_more c q pos (inr h) (inl old) =
      let e : get_or latest' c 0 ≡ get_or latest c 0 = h.1 in
      let there : slice_get spans (get_or latest c 0) ≡ Some q = ap (λ (k : ℕ). slice_get spans k) (sym e) ∙ old.1 in
      are.own c q there (omega arith)
  own_more c q pos (inr h) (inr new) =
      let e : get_or latest' c 0 ≡ get_or latest c 0 = h.1 in
      let few : get_or latest c 0 ≤ length spans - 1 = are.few c in
      let at = new.0 in
      absurd (omega arith)

  alike_new : (p q : Span) → 0 < get_or latest b 0 → p ≡ s
      → ((get_or latest b 0 < length spans) × (slice_get spans (get_or latest b 0) ≡ Some q)) ⊎ ((get_or latest b 0 ≡ length spans) × (q ≡ s))
      → bin_of q.at ≡ bin_of p.at
  alike_new p q pos new (inl old) = are.own b q old.1 pos ∙ (bin ∙ sym (ap (λ (x : Span). bin_of x.at) new))
  alike_new p q pos new (inr at) = ap (λ (x : Span). bin_of x.at) (at.1 ∙ sym new)

  alike_old : (k : ℕ) (p q : Span) → 0 < get_or earlier k 0 → k < length spans → slice_get spans k ≡ Some p
      → ((get_or earlier k 0 < length spans) × (slice_get spans (get_or earlier k 0) ≡ Some q)) ⊎ ((get_or earlier k 0 ≡ length spans) × (q ≡ s))
      → bin_of q.at ≡ bin_of p.at
  alike_old k p q pos lt e (inl old) = are.alike k p q e old.1 pos
  alike_old k p q pos lt e (inr at) =
      let fall : get_or earlier k 0 ≤ k - 1 = are.falling k lt in
      let there = at.0 in
      absurd (omega arith)

  alike_more : (k : ℕ) (p q : Span) → 0 < get_or earlier' k 0
      → ((k ≡ n) × (get_or earlier' k 0 ≡ get_or latest b 0)) ⊎ ((k ≡ n → ⊥) × (get_or earlier' k 0 ≡ get_or earlier k 0))
      → ((k < length spans) × (slice_get spans k ≡ Some p)) ⊎ ((k ≡ length spans) × (p ≡ s))
      → slice_get (spans ++ s ∷ []) (get_or earlier' k 0) ≡ Some q
      → bin_of q.at ≡ bin_of p.at
  alike_more k p q pos (inl h) (inl old) e = let at = h.0 in let lt = old.0 in absurd (omega arith)
  alike_more k p q pos (inl h) (inr new) e =
      let w : get_or earlier' k 0 ≡ get_or latest b 0 = h.1 in
      let there : slice_get (spans ++ s ∷ []) (get_or latest b 0) ≡ Some q = ap (λ (i : ℕ). slice_get (spans ++ s ∷ []) i) (sym w) ∙ e in
      alike_new p q (omega arith) new.1 (split spans s (get_or latest b 0) q there)
  alike_more k p q pos (inr h) (inl old) e =
      let w : get_or earlier' k 0 ≡ get_or earlier k 0 = h.1 in
      let there : slice_get (spans ++ s ∷ []) (get_or earlier k 0) ≡ Some q = ap (λ (i : ℕ). slice_get (spans ++ s ∷ []) i) (sym w) ∙ e in
      alike_old k p q (omega arith) old.0 old.1 (split spans s (get_or earlier k 0) q there)
  alike_more k p q pos (inr h) (inr new) e = absurd (h.0 (new.0 ∙ sym number))

  last_new : (c k : ℕ) → k ≤ n → c ≡ b → ((c ≡ b) × (get_or latest' c 0 ≡ n)) ⊎ ((c ≡ b → ⊥) × (get_or latest' c 0 ≡ get_or latest c 0)) → k
      ≤ get_or latest' c 0
  last_new c k le here (inl h) = let e = h.1 in omega arith
  last_new c k le here (inr h) = absurd (h.0 here)

  last_old : (c k : ℕ) → k < n → k ≤ get_or latest c 0 → ((c ≡ b) × (get_or latest' c 0 ≡ n)) ⊎
      ((c ≡ b → ⊥) × (get_or latest' c 0 ≡ get_or latest c 0)) → k ≤ get_or latest' c 0
  last_old c k lt le (inl h) = let e = h.1 in omega arith
  last_old c k lt le (inr h) = let e = h.1 in omega arith

  last_more : (k : ℕ) (p : Span) → ((k < length spans) × (slice_get spans k ≡ Some p)) ⊎ ((k ≡ length spans) × (p ≡ s)) → k ≤ get_or latest' (bin_of p.at) 0
  last_more k p (inl old) = let lt = old.0 in last_old (bin_of p.at) k (omega arith) (are.last k p old.1) (written latest b n (bin_of p.at) bins)
  last_more k p (inr new) =
      let at = new.0 in
      last_new (bin_of p.at) k (omega arith) (ap (λ (x : Span). bin_of x.at) new.1 ∙ sym bin) (written latest b n (bin_of p.at) bins)

  next_old : (k m : ℕ) (p q : Span) → k < m → m < length spans → bin_of p.at ≡ bin_of q.at → slice_get spans m ≡ Some q
      → ((k < length spans) × (slice_get spans k ≡ Some p)) ⊎ ((k ≡ length spans) × (p ≡ s)) → k ≤ get_or earlier m 0
  next_old k m p q lt within same e (inl old) = are.next k m p q old.1 e lt same
  next_old k m p q lt within same e (inr new) = let at = new.0 in absurd (omega arith)

  next_new : (k : ℕ) (p q : Span) → k < n → bin_of p.at ≡ bin_of q.at → q ≡ s
      → ((k < length spans) × (slice_get spans k ≡ Some p)) ⊎ ((k ≡ length spans) × (p ≡ s)) → k ≤ get_or latest b 0
  next_new k p q lt same new (inl old) =
      let here : bin_of p.at ≡ b = same ∙ (ap (λ (x : Span). bin_of x.at) new ∙ sym bin) in
      subst (λ (c : ℕ). k ≤ get_or latest c 0) here (are.last k p old.1)
  next_new k p q lt same new (inr at) = let here = at.0 in absurd (omega arith)

  next_more : (k m : ℕ) (p q : Span) → k < m → bin_of p.at ≡ bin_of q.at → slice_get (spans ++ s ∷ []) k ≡ Some p
      → ((m ≡ n) × (get_or earlier' m 0 ≡ get_or latest b 0)) ⊎ ((m ≡ n → ⊥) × (get_or earlier' m 0 ≡ get_or earlier m 0))
      → ((m < length spans) × (slice_get spans m ≡ Some q)) ⊎ ((m ≡ length spans) × (q ≡ s))
      → k ≤ get_or earlier' m 0
  next_more k m p q lt same e (inl h) (inl old) = let at = h.0 in let below = old.0 in absurd (omega arith)
  next_more k m p q lt same e (inl h) (inr new) =
      let at = h.0 in
      let w = h.1 in
      let old = next_new k p q (omega arith) same new.1 (split spans s k p e) in
      omega arith
  next_more k m p q lt same e (inr h) (inl old) =
      let w = h.1 in
      let within = old.0 in
      let le = next_old k m p q lt within same old.1 (split spans s k p e) in
      omega arith
  next_more k m p q lt same e (inr h) (inr new) = absurd (h.0 (new.0 ∙ sym number))

  pub one_more_binned : AreBinned latest' earlier' (spans ++ s ∷ [])
  one_more_binned = record {
    few = λ c. few_more c (written latest b n c bins);
    falling = λ k h. falling_more k h (written earlier n (get_or latest b 0) k room);
    own = λ c q e pos. own_more c q pos (written latest b n c bins) (split spans s (get_or latest' c 0) q e);
    alike = λ k p q e f pos. alike_more k p q pos (written earlier n (get_or latest b 0) k room) (split spans s k p e) f;
    last = λ k p e. last_more k p (split spans s k p e);
    next = λ k m p q e f lt same. next_more k m p q lt same e (written earlier n (get_or latest b 0) m room) (split spans s m q f);
  }
