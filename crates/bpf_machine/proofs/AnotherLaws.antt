-- The empty jobs of another machine.
use Rattle.std.proofs.Common.{◌≡◌, ℕ, suc, ◌<◌, Bool, true, false, List, [], ◌∷◌, Option, Some, None, length, refl, sym}
use Rattle.std.proofs.Common.{ap, ◌∙◌, arith}
use Rattle.std.specs.Prelude.{map, All, slice_get}
use Rattle.std.proofs.lemmas.List.Elements.{All-nil, All-cons}
use Rattle.std.proofs.lemmas.List.{get_or_past}
use Rattle.bpf_loader.specs.Loaded.{Loaded}
use Rattle.bpf_cpu.specs.Input.{IsShort}
use Rattle.bpf_cpu.specs.declared.job.Job.{Job}
use Rattle.bpf_machine.specs.declared.machine.lane.Listed.{Listed}
use Rattle.bpf_machine.specs.declared.machine.lane.Lane.{Lane}
use Rattle.bpf_machine.specs.Listings.{Listing, Never, Due, first_lists, listing_at}
use Rattle.bpf_machine.specs.Private.Lanes.{empty_job, IsListed}

-- what follows for a listed job's empty one is true of all
all_empty : (P : Job → Type 0) (jobs : List Listed) → ((k : ℕ) (x : Listed) → slice_get jobs k ≡ Some x → P (empty_job x)) → All P
    (map empty_job jobs)
all_empty P [] each = All-nil P
all_empty P (x ∷ xs) each = All-cons P (empty_job x) (map empty_job xs) (each 0 x refl) (all_empty P xs (λ k y at. each (suc k) y at))

module _ (serves : ℕ → Bool) (programs : List Loaded) (lanes : List Lane) (jobs : List Listed)
    (listed : (k : ℕ) (x : Listed) → slice_get jobs k ≡ Some x → IsListed serves programs lanes k x) where
  pub all_served : (other : ℕ → Bool) → ((c : ℕ) → other c ≡ serves c) → All (λ job. other job.cpu ≡ true) (map empty_job jobs)
  all_served other same = all_empty (λ job. other job.cpu ≡ true) jobs (λ k x at. same x.cpu ∙ (listed k x at).served)

  pub all_loaded : All (λ job. job.program < length programs) (map empty_job jobs)
  all_loaded = all_empty (λ job. job.program < length programs) jobs (λ k x at. (listed k x at).program)

pub all_short : (jobs : List Listed) → All (λ job. IsShort job.input) (map empty_job jobs)
all_short jobs = all_empty (λ job. IsShort job.input) jobs (λ k x at. (omega arith, omega arith))

-- a machine that lists no keys has no lists
pub no_lists : (o : Option (List Listing)) → listing_at o ≡ first_lists false → o ≡ None
no_lists None e = refl
no_lists (Some all) e =
    let two : Never ≡ Due = ap (λ (f : ℕ → Listing). f (length all)) (sym e) ∙ get_or_past all (length all) Due (omega arith) in
    cc
