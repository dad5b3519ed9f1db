-- Programs, and the shape of the store, stay.
use Rattle.std.proofs.Common.{◌≡◌, ◌∙◌, ℕ, suc, Bool, true, false, None, List, [], ◌∷◌, length, refl, sym, ap}
use Rattle.std.specs.Prelude.{slice_set}
use Rattle.std.proofs.lemmas.List.{length-set}
use Rattle.bpf_shared.specs.declared.shapes.MapShape.{MapShape}
use Rattle.bpf_machine.specs.declared.machine.lane.Listed.{Listed}
use Rattle.bpf_machine.specs.declared.machine.lane.Lane.{Lane}
use Rattle.bpf_machine.specs.Machine.{MachineState}
use Rattle.bpf_machine.specs.Parts.{IsSameHost}
use Rattle.bpf_machine.specs.declared.machine.listing.KeyLists.{KeyLists}
use Rattle.bpf_machine.specs.Private.KeyLists.{listings, FitLists}
use Rattle.bpf_machine.specs.Private.Lanes.{tasks_of}

pub same_host : (m : MachineState) → IsSameHost m m
same_host m = record { programs = refl; jobs = refl; shape = (λ c. refl, refl); lists = λ none. none }

pub same_host_still : (a b c : MachineState) → IsSameHost a b → IsSameHost b c → IsSameHost a c
same_host_still a b c x y = record {
  programs = y.programs ∙ x.programs;
  jobs = y.jobs ∙ x.jobs;
  shape = (λ n. y.shape.0 n ∙ x.shape.0 n, y.shape.1 ∙ x.shape.1);
  lists = λ none. y.lists (x.lists none);
}

pub tasks_count : (lanes : List Lane) (jobs : List Listed) → length (tasks_of lanes jobs) ≡ length jobs
tasks_count lanes [] = refl
tasks_count lanes (x ∷ xs) = ap suc (tasks_count lanes xs)

-- one job is listed anew
pub same_count : (lanes later : List Lane) (jobs : List Listed) (j : ℕ) (x : Listed) → length (tasks_of later (slice_set jobs j x)) ≡ length
    (tasks_of lanes jobs)
same_count lanes later jobs j x = tasks_count later (slice_set jobs j x) ∙ (length-set jobs j x ∙ sym (tasks_count lanes jobs))

-- lists are asked for where a machine shows some
pub some_lists : {A : Type 0} (keys : Bool) (all : List KeyLists) → keys ≡ true → listings keys all ≡ None → A
some_lists false all asked none = cc
some_lists true all asked none = cc

pub fit_none : (shapes : List MapShape) (jobs : List Listed) (keys : Bool) (all : List KeyLists) → listings keys all ≡ None → FitLists shapes jobs keys all
fit_none shapes jobs false all none = tt
fit_none shapes jobs true all none = cc
