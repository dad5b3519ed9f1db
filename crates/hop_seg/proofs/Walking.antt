-- A walk along the overflow list.
use Rattle.std.proofs.Common.{◌≡◌, ℕ, suc, ◌+◌, ◌≤◌, List, [], ◌∷◌, Option, Some, None, ◌⊎◌, inl, inr, length, refl, ap, sym, subst, arith, MatchOption}
use Rattle.hop_seg.specs.Words.{Words, IsKnown}
use Rattle.hop_seg.specs.Segment.{Sound, Chain, Among, KeysDiffer}
use Rattle.hop_seg.specs.Content.{IsInOverflow}
use Rattle.hop_seg.specs.Spots.{IsLink}
use Rattle.hop_seg.proofs.Lists.{chain_unique, steps, steps-chain, steps-within, length-within}

-- the walk has reached the link after `before`, which leads to `at`; P holds of what it passed
pub record Walk (w : Words) (P : ℕ → Type 0) (before at : Option ℕ) : Type 0 where
  pub rest : List ℕ
  pub chain : Chain w.next at rest
  pub differ : KeysDiffer w.fixed.key rest
  pub listed : (e : ℕ) → Among e rest → IsInOverflow w e
  pub passed : (e : ℕ) → IsInOverflow w e → Among e rest ⊎ P e
  pub link : MatchOption before (w.head ≡ at) (λ p. IsInOverflow w p × (w.next p ≡ at) × (Among p rest → ⊥))

pub listed_among : (w : Words) (s : Sound w) (e : ℕ) → IsInOverflow w e → Among e s.list
listed_among w s e l = subst (λ (xs : List ℕ). Among e xs) (chain_unique w.next w.head l.0 s.list l.1 s.chain) l.2

pub among_listed : (w : Words) (s : Sound w) (e : ℕ) → Among e s.list → IsInOverflow w e
among_listed w s e m = (s.list, s.chain, m)

pub listed_known : (w : Words) (s : Sound w) (e : ℕ) → IsInOverflow w e → IsKnown w.fixed e
listed_known w s e l = (s.listed_own e (listed_among w s e l)).known

pub walk_begins : (w : Words) (s : Sound w) (P : ℕ → Type 0) → Walk w P None w.head
walk_begins w s P = record {
  rest = s.list;
  chain = s.chain;
  differ = s.differ;
  listed = among_listed w s;
  passed = λ e l. inl (listed_among w s e l);
  link = refl;
}

-- what is left of the walk: the element that it has reached, and the rest after it
pub record Ahead (w : Words) (P : ℕ → Type 0) (before : Option ℕ) (e : ℕ) : Type 0 where
  pub rest : List ℕ
  pub chain : Chain w.next (w.next e) rest
  pub differ : KeysDiffer w.fixed.key (e ∷ rest)
  pub listed : (x : ℕ) → Among x (e ∷ rest) → IsInOverflow w x
  pub passed : (x : ℕ) → IsInOverflow w x → Among x (e ∷ rest) ⊎ P x
  pub link : IsLink w before e
  pub beyond : MatchOption before (w.head ≡ Some e) (λ p. IsInOverflow w p × (w.next p ≡ Some e) × (Among p (e ∷ rest) → ⊥))
  pub long : steps w.fixed.limit w.next (Some e) ≡ suc (length rest)
  pub onward : steps w.fixed.limit w.next (w.next e) ≡ length rest
  pub short : length rest ≤ w.fixed.limit

link_of : (w : Words) (before : Option ℕ) (e : ℕ) (rest : List ℕ) → IsInOverflow w e → MatchOption before (w.head ≡ Some e)
    (λ p. IsInOverflow w p × (w.next p ≡ Some e) × (Among p rest → ⊥)) → IsLink w before e
link_of w None e rest l h = record { leads = h; listed = l }
link_of w (Some p) e rest l h = record { leads = (h.0, h.1); listed = l }

ahead : (w : Words) (s : Sound w) (P : ℕ → Type 0) (before : Option ℕ) (e : ℕ) (xs : List ℕ) → Chain w.next (Some e) xs → KeysDiffer
    w.fixed.key xs → ((x : ℕ) → Among x xs → IsInOverflow w x)
    → ((x : ℕ) → IsInOverflow w x → Among x xs ⊎ P x) → MatchOption before (w.head ≡ Some e)
    (λ p. IsInOverflow w p × (w.next p ≡ Some e) × (Among p xs → ⊥)) → Ahead w P before e
ahead w s P before e [] c d l p k = let no : ◌≡◌ {A = Option ℕ} (Some e) None = c in cc
ahead w s P before e (x ∷ xs) c d l p k =
    let both : ◌≡◌ {A = Option ℕ} (Some e) (Some x) = c.0 in
    let same : e ≡ x = cc in
    let list : x ∷ xs ≡ e ∷ xs = ap (λ (z : ℕ). z ∷ xs) (sym same) in
    let onward : Chain w.next (w.next e) xs = subst (λ (z : ℕ). Chain w.next (w.next z) xs) (sym same) c.1 in
    let fits : length (x ∷ xs) ≤ w.fixed.limit = length-within w.fixed.key (x ∷ xs) w.fixed.limit d
    (λ y m. (s.listed_own y (listed_among w s y (l y m))).known.1) in
    record {
      rest = xs;
      chain = onward;
      differ = subst (KeysDiffer w.fixed.key) list d;
      listed = subst (λ (ys : List ℕ). (y : ℕ) → Among y ys → IsInOverflow w y) list l;
      passed = subst (λ (ys : List ℕ). (y : ℕ) → IsInOverflow w y → Among y ys ⊎ P y) list p;
      link = link_of w before e (x ∷ xs) (l e (inl same)) k;
      beyond = subst (λ (ys : List ℕ). MatchOption before (w.head ≡ Some e) (λ p. IsInOverflow w p × (w.next p ≡ Some e) × (Among p ys → ⊥))) list k;
      long = steps-chain w.fixed.limit w.next (Some e) (x ∷ xs) c fits;
      onward = steps-chain w.fixed.limit w.next (w.next e) xs onward (omega arith);
      short = omega arith;
    }

pub walk_at : (w : Words) (s : Sound w) (P : ℕ → Type 0) (before : Option ℕ) (e : ℕ) → Walk w P before (Some e) → Ahead w P before e
walk_at w s P before e k = ahead w s P before e k.rest k.chain k.differ k.listed k.passed k.link

-- the step past it
pub walk_on : (w : Words) (P : ℕ → Type 0) (before : Option ℕ) (e : ℕ) → Ahead w P before e → P e → Walk w P (Some e) (w.next e)
walk_on w P before e a holds = record {
  rest = a.rest;
  chain = a.chain;
  differ = a.differ.1;
  listed = λ y m. a.listed y (inr m);
  passed = λ y m. elim (a.passed y m) [
    | inl q ↦ elim q [ inl at ↦ inr (subst P (sym at) holds) | inr on ↦ inl on ]
    | inr h ↦ inr h
  ];
  link = (a.link.listed, refl, λ m. a.differ.0 e m refl);
}

pub walk_ends : (w : Words) (P : ℕ → Type 0) (before : Option ℕ) → Walk w P before None → (e : ℕ) → IsInOverflow w e → P e
walk_ends w P before k e l =
    elim (k.passed e l) [
      | inl m ↦ elim k.rest as (λ xs. Chain w.next None xs → Among e xs → P e) [
        | [] ↦ λ c n. elim n [ ]
        | x ∷ xs ↦ λ c n. let no : ◌≡◌ {A = Option ℕ} None (Some x) = c.0 in cc
      ] k.chain m
      | inr h ↦ h
    ]

-- a walk that has passed n elements, and has no more to come than there are beyond these
pub record Counted (w : Words) (P : ℕ → Type 0) (before at : Option ℕ) (passed : ℕ) : Type 0 where
  pub walk : Walk w P before at
  pub short : passed + steps w.fixed.limit w.next at ≤ w.fixed.limit

pub counted_begins : (w : Words) (s : Sound w) (P : ℕ → Type 0) → Counted w P None w.head 0
counted_begins w s P = record { walk = walk_begins w s P; short = omega (arith, steps-within w.fixed.limit w.next w.head) }

pub counted_on : (w : Words) (s : Sound w) (P : ℕ → Type 0) (before : Option ℕ) (e passed : ℕ) → Counted w P before (Some e) passed → P e →
    Counted w P (Some e) (w.next e) (passed + 1)
counted_on w s P before e passed k holds =
    let here = walk_at w s P before e k.walk in
    record { walk = walk_on w P before e here holds; short = omega (arith, here.long, here.onward, k.short) }

-- as many as there are elements are all
pub counted_ends : (w : Words) (s : Sound w) (P : ℕ → Type 0) (before at : Option ℕ) (passed : ℕ) → w.fixed.limit ≤ passed → Counted w P
    before at passed → (e : ℕ) → IsInOverflow w e → P e
counted_ends w s P before None passed all k e l = walk_ends w P before k.walk e l
counted_ends w s P before (Some x) passed all k e l = let here = walk_at w s P before x k.walk in absurd (omega (arith, here.long, k.short))
