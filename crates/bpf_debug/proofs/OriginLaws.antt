-- The jobs of a machine under their numbers, and the machine that they make again.
use Rattle.std.proofs.Common.{◌≡◌, ℕ, zero, suc, ◌+◌, ◌<◌, List, [], ◌∷◌, ◌++◌, Option, None, length, take, get_or, Some, refl, sym, ap, subst, ◌∙◌, arith}
use Rattle.std.specs.Prelude.{All, slice_get}
use Rattle.std.proofs.Math.Seq.{get_or-append_seam, take-length, take-suc}
use Rattle.std.proofs.lemmas.List.{get_or_append_left, length-append, map-append}
use Rattle.std.proofs.lemmas.List.Elements.{All-append}
use Rattle.std.proofs.lemmas.Option.{get_or_from_slice_get, slice_get_within}
use Rattle.bpf_shared.specs.Shape.{Shape}
use Rattle.bpf_plain.specs.PlainStore.{Contents, has_cpu, shape_of}
use Rattle.bpf_plain.specs.Alike.{IsSameShape}
use Rattle.bpf_cpu.specs.Task.{Task}
use Rattle.bpf_machine.specs.Machine.{MachineState, Shows}
use Rattle.bpf_machine.specs.Schedule.{World}
use Rattle.bpf_machine.specs.Listings.{Listing}
use Rattle.bpf_machine.specs.Parts.{CanStand, chosen, made_of, no_task}
use Rattle.bpf_debug.specs.Origin.{OriginState, CanRewind, IsOfShape, first_of}

-- jobs after others change none of those
chosen_front : (jobs more : List Task) (numbers : List ℕ) → All (λ n. n < length jobs) numbers → chosen (jobs ++ more) numbers ≡ chosen jobs numbers
chosen_front jobs more [] within = refl
chosen_front jobs more (n ∷ ns) within =
    let here : get_or (jobs ++ more) n no_task ≡ get_or jobs n no_task = get_or_append_left jobs more no_task n (within 0 n (omega arith)) in
    ap (λ (t : Task). t ∷ chosen (jobs ++ more) ns) here
    ∙ ap (λ (ts : List Task). get_or jobs n no_task ∷ ts) (chosen_front jobs more ns (λ k d inside. within (suc k) d (omega (arith, inside))))

-- some are kept, each under its number
pub record Kept (all jobs : List Task) (numbers : List ℕ) (count : ℕ) : Type 0 where
  pub size : length jobs ≡ count
  pub within : All (λ n. n < length jobs) numbers
  pub are : chosen jobs numbers ≡ take count all

pub kept_none : (all : List Task) → Kept all [] [] 0
kept_none all = record { size = refl; within = λ k d inside. absurd (omega (arith, inside)); are = refl }

pub kept_more : (all jobs : List Task) (numbers : List ℕ) (count : ℕ) (t : Task) → Kept all jobs numbers count → slice_get all count ≡ Some
    t → Kept all (jobs ++ t ∷ []) (numbers ++ count ∷ []) (count + 1)
kept_more all jobs numbers count t kept at =
    let longer : length (jobs ++ t ∷ []) ≡ length jobs + 1 = length-append jobs (t ∷ []) in
    let size = kept.size in
    let here : get_or (jobs ++ t ∷ []) count no_task ≡ t = ap (λ (k : ℕ). get_or (jobs ++ t ∷ []) k no_task) (sym size) ∙ get_or-append_seam
    jobs t [] no_task in
    let next : suc count ≡ count + 1 = omega arith in
    let last : get_or all count no_task ≡ t = get_or_from_slice_get all count t no_task at in
    record {
      size = omega (arith, longer, size);
      within = All-append (λ n. n < length (jobs ++ t ∷ [])) numbers (count ∷ [])
          (λ k d inside. omega (arith, longer, kept.within k d inside)) (λ k d inside. one k d inside longer size);
      are = map-append (λ (n : ℕ). get_or (jobs ++ t ∷ []) n no_task) numbers (count ∷ [])
          ∙ ap (λ (ts : List Task). ts ++ get_or (jobs ++ t ∷ []) count no_task ∷ []) (chosen_front jobs (t ∷ []) numbers kept.within ∙ kept.are)
          ∙ ap (λ (u : Task). take count all ++ u ∷ []) (here ∙ sym last)
          ∙ sym (take-suc all count no_task (slice_get_within all count t at))
          ∙ ap (λ (k : ℕ). take k all) next;
    }
  where
    one : (k d : ℕ) → k < 1 → length (jobs ++ t ∷ []) ≡ length jobs + 1 → length jobs ≡ count → get_or (count ∷ []) k d < length (jobs ++ t ∷ [])
    one zero d inside longer size = omega (arith, longer, size)
    one (suc k) d inside longer size = absurd (omega (arith, inside))

pub kept_all : (all jobs : List Task) (numbers : List ℕ) (count : ℕ) → Kept all jobs numbers count → count ≡ length all → chosen jobs numbers ≡ all
kept_all all jobs numbers count kept whole = kept.are ∙ ap (λ (k : ℕ). take k all) whole ∙ take-length all

-- ---- the machine
pub one_shape : (h : Shape) (p q : Contents) → IsOfShape h p → IsOfShape h q → IsSameShape p q
one_shape h p q a b = (λ c. b.1 c ∙ sym (a.1 c), b.0 ∙ sym a.0)

pub made_again : (o : OriginState) (m : MachineState) → o.store ≡ m.store → chosen o.jobs o.numbers ≡ m.jobs → m.lists ≡ None → first_of o m.programs ≡ m
made_again o m stored jobs lists =
    ap (λ (s : Contents). made_of s m.programs o.jobs o.numbers) stored
    ∙ ap (λ (ts : List Task). record { store = m.store; programs = m.programs; jobs = ts; lists = None }) jobs
    ∙ ap (λ (ls : Option (List Listing)). record { store = m.store; programs = m.programs; jobs = m.jobs; lists = ls }) (sym lists)

pub can_again : (h : Shape) (o : OriginState) (m : MachineState) → ((w : World) × Shows m w) → IsOfShape h m.store → CanStand m → All
    (λ n. n < length o.jobs) o.numbers
    → o.store ≡ m.store → chosen o.jobs o.numbers ≡ m.jobs → m.lists ≡ None → CanRewind o m
can_again h o m shown shape stands within stored jobs lists = record {
  lists = lists;
  shape = (λ c. ap (λ (s : Contents). has_cpu s c) (sym stored), ap (λ (s : Contents). shape_of s) (sym stored));
  within = within;
  stands = subst CanStand (sym (made_again o m stored jobs lists)) stands;
  shown = (shown.0, subst (λ (n : MachineState). Shows n shown.0) (sym (made_again o m stored jobs lists)) shown.1);
}
