-- Lines of maps.
use Rattle.std.proofs.Common.{◌≡◌, ℕ, suc, ◌+◌, List, [], ◌++◌, length, sym, ap, subst, ◌∙◌, arith}
use Rattle.std.specs.Prelude.{slice_index_or, Vec}
use Rattle.std.specs.declared.alloc.Global.{Global}
use Rattle.std.proofs.lemmas.List.{length-map}
use Rattle.bpf_shared.specs.Listing.{IsListing, listed, pair_of}
use Rattle.bpf_shared.specs.Store.{Plain}
use Rattle.bpf_jobs.specs.Printed.{AreMapLines, key_lines}

-- one map more
pub one_map_more : (s : Plain) (names : List (List ℕ)) (m : ℕ) (pairs items : List (Vec ℕ Global × Vec ℕ Global)) (name text new : List ℕ) →
    items ≡ pairs → name ≡ slice_index_or names m []
    → AreMapLines s names m text → IsListing s m (listed pairs) → new ≡ text ++ key_lines name (length items) (listed items) → AreMapLines s names (m + 1) new
one_map_more s names m pairs items name text new same named before lists more =
    let next : suc m ≡ m + 1 = omega arith in
    let count : length items ≡ length (listed pairs) = ap (λ (ps : List (Vec ℕ Global × Vec ℕ Global)). length ps) same ∙ sym (length-map pairs pair_of) in
    subst (λ (n : ℕ). AreMapLines s names n new) next (
      text,
      listed pairs,
      before,
      lists,
      more ∙ (ap (λ (k : ℕ). text ++ key_lines name k (listed items)) count
          ∙ (ap (λ (ps : List (Vec ℕ Global × Vec ℕ Global)). text ++ key_lines name (length (listed pairs)) (listed ps)) same
          ∙ ap (λ (x : List ℕ). text ++ key_lines x (length (listed pairs)) (listed pairs)) named)),
    )
