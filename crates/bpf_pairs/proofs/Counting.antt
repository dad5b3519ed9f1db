-- The pairs among those that were gone through.
use Rattle.std.proofs.Common.{◌≡◌, ◌≢◌, ℕ, zero, suc, ◌+◌, ◌<◌, ◌==◌, ◌&&◌, ◌||◌, Bool, true, false, List, [], ◌∷◌, ◌++◌, length, map, take}
use Rattle.std.proofs.Common.{get_or, refl, ap, ◌∙◌, arith}
use Rattle.std.proofs.lemmas.List.{map-append, take_more}
use Rattle.std.specs.Str.{bytes_eq}
use Rattle.bpf_pairs.specs.declared.pairs.Pair.{Pair as Given}
use Rattle.bpf_pairs.specs.Pairs.{Pair, has_key, pair_of, pairs_in}
use Rattle.bpf_pairs.proofs.Filling.{no_more, one_more}

has_key-append : (m : ℕ) (key : List ℕ) (xs ys : List Pair) → has_key m key (xs ++ ys) ≡ (has_key m key xs || has_key m key ys)
has_key-append m key [] ys = refl
has_key-append m key (x ∷ xs) ys = ap (λ (b : Bool). (x.map == m && bytes_eq x.key key) || b) (has_key-append m key xs ys) ∙ assoc
    (x.map == m && bytes_eq x.key key) (has_key m key xs) (has_key m key ys)
  where
    assoc : (a b c : Bool) → (a || (b || c)) ≡ ((a || b) || c)
    assoc true b c = refl
    assoc false b c = refl

-- a pair that is there
pub key_at : (m : ℕ) (key : List ℕ) (ps : List Given) (k : ℕ) (d : Given) → k < length ps →
    ((get_or ps k d).map == m && bytes_eq (get_or ps k d).key.items key) ≡ true → has_key m key (map pair_of ps) ≡ true
key_at m key [] k d inside e = absurd (omega arith)
key_at m key (p ∷ ps) zero d inside e = ap (λ (b : Bool). b || has_key m key (map pair_of ps)) e
key_at m key (p ∷ ps) (suc k) d inside e = or_true (p.map == m && bytes_eq p.key.items key) (has_key m key (map pair_of ps))
    (key_at m key ps k d (omega arith) e)
  where
    or_true : (a b : Bool) → b ≡ true → (a || b) ≡ true
    or_true true b e = refl
    or_true false b e = e

module _ (ps : List Given) (k : ℕ) (d : Given) (inside : k < length ps) where
  abbrev seen : ℕ → List Pair
  seen n = map pair_of (take n ps)

  pub more : seen (k + 1) ≡ seen k ++ pair_of (get_or ps k d) ∷ []
  more = ap (map pair_of) (take_more ps k d inside) ∙ map-append pair_of (take k ps) (get_or ps k d ∷ [])

  pub one_of_its : (m : ℕ) → (get_or ps k d).map ≡ m → pairs_in m (seen (k + 1)) ≡ pairs_in m (seen k) + 1
  one_of_its m same = ap (pairs_in m) more ∙ one_more m (pair_of (get_or ps k d)) (seen k) same

  pub one_of_others : (m : ℕ) → (get_or ps k d).map ≢ m → pairs_in m (seen (k + 1)) ≡ pairs_in m (seen k)
  one_of_others m other = ap (pairs_in m) more ∙ no_more m (pair_of (get_or ps k d)) (seen k) other

  pub key_more : (m : ℕ) (key : List ℕ) → has_key m key (seen (k + 1)) ≡
      (has_key m key (seen k) || (((get_or ps k d).map == m && bytes_eq (get_or ps k d).key.items key) || false))
  key_more m key = ap (has_key m key) more ∙ has_key-append m key (seen k) (pair_of (get_or ps k d) ∷ [])
