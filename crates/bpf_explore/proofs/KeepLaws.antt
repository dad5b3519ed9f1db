-- The numbers of a machine's jobs, while they are found.
use Rattle.std.proofs.Common.{◌≡◌, ◌≢◌, ◌∙◌, ℕ, zero, suc, ◌+◌, ◌<◌, List, [], ◌∷◌, ◌++◌, Some, length, take, get_or, refl, sym, ap, subst, append-nil}
use Rattle.std.proofs.Common.{append_assoc, length-append, arith}
use Rattle.std.specs.Prelude.{All, slice_get, slice_index_or}
use Rattle.std.proofs.Math.ListN.{get_or-append}
use Rattle.std.proofs.lemmas.List.{map-append, take_more, take_all}
use Rattle.std.proofs.lemmas.List.Elements.{All-append}
use Rattle.std.proofs.lemmas.Option.{get_or_from_slice_get}
use Rattle.bpf_cpu.specs.Task.{Task}
use Rattle.bpf_machine.specs.Hands.{OthersStay}
use Rattle.bpf_machine.specs.Parts.{chosen, no_task}
use Rattle.bpf_explore.specs.Private.Album.{AreNumbersOf, AreOthers, IsNumberOf}
use Rattle.bpf_explore.proofs.ShelfLaws.{chosen_still, within_still}

pub record KeptSoFar (first : List Task) (before : List ℕ) (jobs : List Task) (job : ℕ) (parts : List Task) (numbers : List ℕ) : Type 0 where
  pub grows : (more : List Task) × (parts ≡ first ++ more)
  pub numbered : (more : List ℕ) × (numbers ≡ before ++ more) × AreNumbersOf parts more (take job jobs)

pub none_kept : (parts : List Task) (numbers : List ℕ) (jobs : List Task) → KeptSoFar parts numbers jobs 0 parts numbers
none_kept parts numbers jobs = record {
  grows = ([], sym (append-nil parts));
  numbered = ([], sym (append-nil numbers), (λ k d less. absurd (omega arith), refl));
}

one_within : (parts : List Task) (n : ℕ) → n < length parts → All (λ m. m < length parts) (n ∷ [])
one_within parts n less zero d inside = less
one_within parts n less (suc k) d inside = absurd (omega arith)

more_parts : (first mid parts : List Task) → ((more : List Task) × (mid ≡ first ++ more)) → ((more : List Task) × (parts ≡ mid ++ more)) →
    (more : List Task) × (parts ≡ first ++ more)
more_parts first mid parts a b = (a.0 ++ b.0, b.1 ∙ (ap (λ (ts : List Task). ts ++ b.0) a.1 ∙ append_assoc first a.0 b.0))

pub next_kept : (first : List Task) (before : List ℕ) (jobs : List Task) (job : ℕ) (mid parts : List Task) (numbers later : List ℕ) (n : ℕ)
    → KeptSoFar first before jobs job mid numbers → job < length jobs → ((more : List Task) × (parts ≡ mid ++ more))
    → IsNumberOf parts n jobs job → later ≡ numbers ++ n ∷ [] → KeptSoFar first before jobs (job + 1) parts later
next_kept first before jobs job mid parts numbers later n far inside grows is put =
    let more = far.numbered.0 in
    let all = far.numbered.2.0 in
    let still : All (λ m. m < length parts) more = subst (λ (ts : List Task). All (λ m. m < length ts) more) (sym grows.1)
    (within_still mid grows.0 more all) in
    let same : chosen parts more ≡ take job jobs = ap (λ (ts : List Task). chosen ts more) grows.1 ∙ (chosen_still mid grows.0 more all ∙ far.numbered.2.1) in
    let here : get_or jobs job no_task ≡ slice_index_or parts n no_task = get_or_from_slice_get jobs job (slice_index_or parts n no_task) no_task is.1 in
    record {
      grows = more_parts first mid parts far.grows grows;
      numbered = (
        more ++ n ∷ [],
        put ∙ (ap (λ (ns : List ℕ). ns ++ n ∷ []) far.numbered.1 ∙ append_assoc before more (n ∷ [])),
        (
          All-append (λ m. m < length parts) more (n ∷ []) still (one_within parts n is.0),
          map-append (λ k. slice_index_or parts k no_task) more (n ∷ [])
              ∙ (ap (λ (ts : List Task). ts ++ slice_index_or parts n no_task ∷ []) same
              ∙ (ap (λ (t : Task). take job jobs ++ t ∷ []) (sym here) ∙ sym (take_more jobs job no_task inside))),
        ),
      );
    }

pub all_numbered : (first : List Task) (before : List ℕ) (jobs : List Task) (job : ℕ) (parts : List Task) (numbers : List ℕ) → length jobs ≡
    job → KeptSoFar first before jobs job parts numbers
    → (more : List ℕ) × (numbers ≡ before ++ more) × AreNumbersOf parts more jobs
all_numbered first before jobs job parts numbers e far =
    (far.numbered.0, far.numbered.1, (far.numbered.2.0, far.numbered.2.1 ∙ take_all job jobs (omega arith)))

-- ---- jobs that a turn left
pub chosen_get : (parts : List Task) (ns : List ℕ) (j n : ℕ) → slice_get ns j ≡ Some n → slice_get (chosen parts ns) j ≡ Some (slice_index_or parts n no_task)
chosen_get parts [] j n at = cc
chosen_get parts (m ∷ ms) zero n at = let same : m ≡ n = cc in ap (λ (k : ℕ). Some (slice_index_or parts k no_task)) same
chosen_get parts (m ∷ ms) (suc j) n at = chosen_get parts ms j n at

all_at : (P : ℕ → Type 0) (ns : List ℕ) → ((j n : ℕ) → slice_get ns j ≡ Some n → P n) → All P ns
all_at P [] each k d less = absurd (omega arith)
all_at P (n ∷ ns) each zero d less = each 0 n refl
all_at P (n ∷ ns) each (suc k) d less = all_at P ns (λ j m at. each (suc j) m at) k d (omega arith)

at_all : (P : ℕ → Type 0) (ns : List ℕ) → All P ns → (j n : ℕ) → slice_get ns j ≡ Some n → P n
at_all P [] all j n at = cc
at_all P (m ∷ ms) all zero n at = let same : m ≡ n = cc in subst P same (all 0 0 (omega arith))
at_all P (m ∷ ms) all (suc j) n at = at_all P ms (λ k d less. all (suc k) d (omega arith)) j n at

module _ (parts : List Task) (before : List ℕ) (c : ℕ) (jobs : List Task) where
  pub others_within : AreOthers parts before c jobs → All (λ n. n < length parts) before
  others_within are = all_at (λ n. n < length parts) before (λ j n at. (are j n at).0)

  pub other_is : AreOthers parts before c jobs → (j n : ℕ) → slice_get before j ≡ Some n → (slice_index_or parts n no_task).cpu ≢ c → IsNumberOf parts n jobs j
  other_is are j n at differs = ((are j n at).0, (are j n at).1 differs)

  pub others_still : (new : List Task) → AreOthers parts before c jobs → ((more : List Task) × (new ≡ parts ++ more)) → AreOthers new before c jobs
  others_still new are (more, e) j n at =
      let here = are j n at in
      let P : List Task → Type 0 = λ ts. (n < length ts) × ((slice_index_or ts n no_task).cpu ≢ c → slice_get jobs j ≡ Some (slice_index_or ts n no_task)) in
      let same = get_or-append parts more no_task n here.0 in
      let both = length-append parts more in
      subst P (sym e) (
        omega (arith, here.0),
        subst (λ (t : Task). t.cpu ≢ c → slice_get jobs j ≡ Some t) (sym same) here.1,
      )

  -- of a tuple, whose jobs are those before the turn
  pub others_of : (old : List Task) → chosen parts before ≡ old → All (λ n. n < length parts) before → OthersStay old c jobs → AreOthers parts before c jobs
  others_of old is all stay j n at = (
    at_all (λ n. n < length parts) before all j n at,
    λ differs. stay j (slice_index_or parts n no_task) (ap (λ (ts : List Task). slice_get ts j) (sym is) ∙ chosen_get parts before j n at) differs,
  )
