-- Lists of charts, bounds and jobs that grow by one.
use Rattle.std.proofs.Common.{◌≡◌, ℕ, zero, suc, ◌+◌, ◌<◌, List, [], ◌∷◌, ◌++◌, length, drop, map, Option, Some, None, Result, Ok, Err}
use Rattle.std.proofs.Common.{IfOk, ◌⊎◌, inl, inr, refl, sym, ap, subst, ◌∙◌, arith, length-append}
use Rattle.std.specs.Prelude.{All, IfSome, slice_get}
use Rattle.std.proofs.lemmas.Option.{slice_get_within}
use Rattle.std.proofs.lemmas.List.Elements.{All-cons}
use Rattle.bpf_base.proofs.Lists.{slice_get-append, slice_get-front}
use Rattle.bpf_shared.proofs.Puts.{equal_or_not}
use Rattle.bpf_loader.specs.Loaded.{Loaded}
use Rattle.bpf_cpu.specs.declared.job.Job.{Job}
use Rattle.bpf_cpu.specs.Task.{Task, waiting}
use Rattle.bpf_threads.specs.declared.chart.Drawn.{Drawn}
use Rattle.bpf_threads.specs.declared.counting.Counted.{Counted}
use Rattle.bpf_threads.specs.Counting.{AreBounds, AddUp, HasAtMost, HaveAtMost}
use Rattle.bpf_threads.specs.Private.Charts.{AreCharts, IsChartOf, IsBoundAt}

-- an element of a list with one more
module _ {A : Type 0} where
  last_or_before : (xs : List A) (x y : A) (k : ℕ) → slice_get (xs ++ x ∷ []) k ≡ Some y → (slice_get xs k ≡ Some y) ⊎ ((k ≡ length xs) × (x ≡ y))
  last_or_before xs x y k at = elim (equal_or_not k (length xs)) [
    | inl last ↦
        let found : slice_get (xs ++ x ∷ []) k ≡ slice_get (x ∷ []) 0 = slice_get-append xs (x ∷ []) 0 k (omega (arith, last)) in
        inr (last, (let same : Some x ≡ Some y = sym found ∙ at in cc))
    | inr other ↦
        let inside : k < length (xs ++ x ∷ []) = slice_get_within (xs ++ x ∷ []) k y at in
        let before : k < length xs = omega (arith, inside, other, length-append xs (x ∷ [])) in
        inl (sym (slice_get-front xs (x ∷ []) k before) ∙ at)
  ]

  pub drop_at : (xs : List A) (i : ℕ) (x : A) → slice_get xs i ≡ Some x → drop i xs ≡ x ∷ drop (suc i) xs
  drop_at [] i x e = absurd cc
  drop_at (y ∷ xs) zero x e = ap (λ (z : A). z ∷ xs) (let same : y ≡ x = cc in same)
  drop_at (y ∷ xs) (suc i) x e = drop_at xs i x e

pub charts_more : (programs : List Loaded) (charts : List Drawn) (k : ℕ) (program : Loaded) (new : Drawn) → length charts ≡ k → slice_get
    programs k ≡ Some program → IsChartOf program new → AreCharts programs charts → AreCharts programs (charts ++ new ∷ [])
charts_more programs charts k program new count there is are i other chart at in_charts = elim (last_or_before charts new chart i in_charts) [
  | inl before ↦ are i other chart at before
  | inr last ↦
      let here : slice_get programs i ≡ Some program = ap (slice_get programs) (last.0 ∙ count) ∙ there in
      let same : program ≡ other = (let both : Some program ≡ Some other = sym here ∙ at in cc) in
      subst (λ (p : Loaded). IsChartOf p chart) same (subst (IsChartOf program) last.1 is)
]

pub bounds_more : (q : Counted) (programs : List Loaded) (bounds : List (Option ℕ)) (k : ℕ) (new : Option ℕ) → length bounds ≡ k → IsBoundAt
    q programs k new → AreBounds q programs bounds → AreBounds q programs (bounds ++ new ∷ [])
bounds_more q programs bounds k new count is are i most program at in_bounds = elim (last_or_before bounds new (Some most) i in_bounds) [
  | inl before ↦ are i most program at before
  | inr last ↦ is most program (ap (slice_get programs) (sym (last.0 ∙ count)) ∙ at) last.1
]

-- a bound of the program of this number is one at it
pub bound_of_program : {E : Type 0} (q : Counted) (programs : List Loaded) (k : ℕ) (program : Loaded) → slice_get programs k ≡ Some program
    → (r : Result (Option ℕ) E) → IfOk r (λ most. IfSome most (λ n. HasAtMost q program n)) → IfOk r (IsBoundAt q programs k)
bound_of_program q programs k program at (Err e) is = is
bound_of_program q programs k program at (Ok None) is = λ most other there none. absurd cc
bound_of_program q programs k program at (Ok (Some n)) is = λ most other there some.
    let one : program ≡ other = (let both : Some program ≡ Some other = sym at ∙ there in cc) in
    let count : n ≡ most = (let both : Some n ≡ Some most = some in cc) in
    subst (λ (p : Loaded). HasAtMost q p most) one (subst (HasAtMost q program) count is)

-- what jobs' bounds sum to is what they have at most
pub at_most : (q : Counted) (programs : List Loaded) (bounds : List (Option ℕ)) (jobs : List Task) → AreBounds q programs bounds →
    (o : Option ℕ) → IfSome o (AddUp bounds jobs)
    → IfSome o (HaveAtMost q programs jobs)
at_most q programs bounds jobs are None is = is
at_most q programs bounds jobs are (Some n) is = (bounds, are, is)

-- one more job, before those that were added
pub add_more : (bounds : List (Option ℕ)) (jobs : List Job) (i : ℕ) (job : Job) (most sum : ℕ) → slice_get jobs i ≡ Some job → slice_get
    bounds job.program ≡ Some (Some most)
    → AddUp bounds (map waiting (drop (suc i) jobs)) sum → AddUp bounds (map waiting (drop i jobs)) (most + sum)
add_more bounds jobs i job most sum at has rest =
    subst (λ (xs : List Job). AddUp bounds (map waiting xs) (most + sum)) (sym (drop_at jobs i job at)) (most, sum, has, rest, refl)

-- the same of what is so of each
pub all_more : (P : Task → Type 0) (jobs : List Job) (i : ℕ) (job : Job) → slice_get jobs i ≡ Some job → P (waiting job) → All P
    (map waiting (drop (suc i) jobs)) → All P (map waiting (drop i jobs))
all_more P jobs i job at is rest =
    subst (λ (xs : List Job). All P (map waiting xs)) (sym (drop_at jobs i job at)) (All-cons P (waiting job) (map waiting (drop (suc i) jobs)) is rest)

-- a number that was found is this one
pub found_some : (o : Option ℕ) (m : ℕ) (Q : ℕ → Type 0) → IfSome o (λ n. n ≡ m) → Q m → IfSome o Q
found_some None m Q e h = tt
found_some (Some n) m Q e h = subst Q (sym e) h
