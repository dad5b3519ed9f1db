-- Rounds of machines whose CPUs have store buffers.
use Rattle.std.proofs.Common.{◌≡◌, ◌∙◌, ℕ, zero, suc, ◌+◌, ◌<◌, ◌≤◌, Bool, true, false, ◌||◌, List, [], ◌∷◌, length, Option, Some}
use Rattle.std.proofs.Common.{None, inl, inr, refl, sym, ap, subst, arith}
use Rattle.std.specs.Prelude.{is_some, nat_lt, option_and_then, slice_get}
use Rattle.std.proofs.lemmas.Bool.{cases_lt}
use Rattle.std.proofs.lemmas.Option.{slice_get_within}
use Rattle.bpf_plain.specs.PlainStore.{has_cpu}
use Rattle.bpf_cpu.specs.declared.outcome.Outcome.{Outcome}
use Rattle.bpf_cpu.specs.Task.{Task, Stage, Waiting, InHand, Ended, ended, outcome_at}
use Rattle.bpf_machine.specs.Hands.{IsFree, NoneWaits}
use Rattle.bpf_machine.specs.Questions.{turns_left}
use Rattle.bpf_machine.specs.Rounds.{HaveEnded}
use Rattle.bpf_machine.proofs.RoundLaws.{all_ended, cpus_shown}
use Rattle.bpf_x86.specs.Machine.{X86, TurnOf, FlushOf}
use Rattle.bpf_buffering.specs.Search.{BufferedState, ShowsX86}
use Rattle.bpf_flushes.specs.Moves.{IdlesAt, MakesAll, MakesTo, MakesRounds, RoundTo, RoundsTo, round_below}
use Rattle.bpf_flushes.proofs.Joining.{nothing_made, makes_both}

abbrev IsIdle : List Task → ℕ → Type 0
IsIdle jobs c = IsFree jobs c × NoneWaits jobs c

-- a round, as far as the CPUs below a number
pub record SoFar (old : BufferedState) (c : ℕ) (worked : Bool) (new : BufferedState) : Type 0 where
  pub makes : MakesTo old (round_below c) new
  pub falls : worked ≡ true → turns_left new.machine.jobs < turns_left old.machine.jobs
  pub idle : worked ≡ false → (new.machine.jobs ≡ old.machine.jobs) × ((d : ℕ) → d < c → IsFree old.machine.jobs d × NoneWaits old.machine.jobs d)

pub none_yet : (old : BufferedState) → SoFar old 0 false old
none_yet old = record {
  makes = nothing_made old;
  falls = λ some. let no : false ≡ true = some in cc;
  idle = λ e. (refl, λ d less. absurd (omega arith));
}

-- what a CPU's turn did
pub record Took (mid : BufferedState) (c : ℕ) (took : Bool) (new : BufferedState) : Type 0 where
  pub makes : MakesTo mid (TurnOf c ∷ []) new
  pub idle : took ≡ false → IdlesAt mid c new
  pub falls : took ≡ true → (x : X86) → ShowsX86 mid x → turns_left new.machine.jobs < turns_left mid.machine.jobs

fewer : (b k : Bool) (old mid turned new : List Task) → new ≡ turned → (k ≡ false → turned ≡ mid) →
    (k ≡ true → turns_left turned < turns_left mid) → (b ≡ true → turns_left mid < turns_left old) → (b ≡ false → mid ≡ old) → (b || k) ≡ true
    → turns_left new < turns_left old
fewer true true old mid turned new same still falls fell none e =
    let count : turns_left new ≡ turns_left turned = ap turns_left same in
    let here = falls refl in
    let before = fell refl in
    omega arith
fewer true false old mid turned new same still falls fell none e =
    let count : turns_left new ≡ turns_left mid = ap turns_left (same ∙ still refl) in
    let before = fell refl in
    omega arith
fewer false true old mid turned new same still falls fell none e =
    let count : turns_left new ≡ turns_left turned = ap turns_left same in
    let first : turns_left mid ≡ turns_left old = ap turns_left (none refl) in
    let here = falls refl in
    omega arith
fewer false false old mid turned new same still falls fell none e = let no : false ≡ true = e in cc

still_idle : (b k : Bool) (c : ℕ) (old mid turned new : List Task) → new ≡ turned → (k ≡ false → (turned ≡ mid) × IsIdle mid c) →
    (b ≡ false → (mid ≡ old) × ((d : ℕ) → d < c → IsIdle old d)) → (b || k) ≡ false
    → (new ≡ old) × ((d : ℕ) → d < c + 1 → IsIdle old d)
still_idle true k c old mid turned new same idle before e = let no : true ≡ false = e in cc
still_idle false true c old mid turned new same idle before e = let no : true ≡ false = e in cc
still_idle false false c old mid turned new same idle before e =
    let here = idle refl in
    let first = before refl in (
      same ∙ (here.0 ∙ first.0),
      λ d less. elim (cases_lt d c) [
        | inl under ↦ first.1 d under
        | inr past ↦ subst (λ (ts : List Task). IsIdle ts d) first.0 (subst (λ (k : ℕ). IsIdle mid k) (omega arith) here.1)
      ],
    )

-- one CPU more
pub next_far : (old mid turned new : BufferedState) (c : ℕ) (worked took : Bool) → (x : X86) → ShowsX86 old x → SoFar old c worked mid →
    Took mid c took turned → MakesTo turned (FlushOf c ∷ []) new
    → ((y : X86) → ShowsX86 turned y → new.machine.jobs ≡ turned.machine.jobs) → SoFar old (c + 1) (worked || took) new
next_far old mid turned new c worked took x shows far it flushed kept =
    let r = far.makes x shows in
    let s = it.makes r.0 r.2 in
    let same : new.machine.jobs ≡ turned.machine.jobs = kept s.0 s.2 in
    let still : IdlesAt mid c turned → turned.machine.jobs ≡ mid.machine.jobs = λ i. sym (i r.0 r.2).2.world.jobs ∙ r.2.world.jobs in
    let more : suc c ≡ c + 1 = omega arith in
    record {
      makes = subst (λ (n : ℕ). MakesTo old (round_below n) new) more
          (makes_both (round_below c) (TurnOf c ∷ FlushOf c ∷ []) old mid new far.makes
          (makes_both (TurnOf c ∷ []) (FlushOf c ∷ []) mid turned new it.makes flushed));
      falls = fewer worked took old.machine.jobs mid.machine.jobs turned.machine.jobs new.machine.jobs same (λ e. still (it.idle e))
          (λ e. it.falls e r.0 r.2) far.falls (λ e. (far.idle e).0);
      idle = still_idle worked took c old.machine.jobs mid.machine.jobs turned.machine.jobs new.machine.jobs same
          (λ e. (let i = it.idle e r.0 r.2 in (still (it.idle e), (i.0, i.1)))) far.idle;
    }

-- all CPUs
module _ (old new : BufferedState) (n : ℕ) (worked : Bool) (serves : (c : ℕ) → has_cpu old.machine.store c ≡ nat_lt c n) (far : SoFar old n worked new) where
  pub whole_round : RoundTo old new
  whole_round x shows =
      let r = far.makes x shows in
      (r.0, subst (λ (k : ℕ). MakesAll x (round_below k) r.0) (sym (cpus_shown old.machine x.world n serves shows.world)) r.1, r.2)

  pub idle_round : ((j : ℕ) (task : Task) → slice_get old.machine.jobs j ≡ Some task → task.cpu < n) → worked ≡ false → HaveEnded old.machine.jobs
  idle_round inside e = all_ended old.machine.jobs n inside (far.idle e).1

-- ---- rounds
abbrev pub Going : BufferedState → BufferedState → Type 0
Going old mid = (x : X86) → ShowsX86 old x → (y : X86) × ShowsX86 mid y × ((n : ℕ) (z : X86) → MakesRounds n y z → (m : ℕ) × MakesRounds m x z)

pub not_begun : (old : BufferedState) → Going old old
not_begun old x shows = (x, shows, λ n z rounds. (n, rounds))

pub round_more : (old mid new : BufferedState) → Going old mid → (HaveEnded mid.machine.jobs → ⊥) → RoundTo mid new → Going old new
round_more old mid new going some round x shows =
    let r = going x shows in
    let t = round r.0 r.1 in (
      t.0,
      t.2,
      λ n z rest. r.2 (suc n) z ((λ all. some (subst HaveEnded r.1.world.jobs all)), (t.0, t.1, rest)),
    )

pub last_round : (old new : BufferedState) → Going old new → HaveEnded new.machine.jobs → RoundsTo old new
last_round old new going all x shows =
    let r = going x shows in
    (r.0, r.2 0 r.0 (subst HaveEnded (sym r.1.world.jobs) all, refl), r.1)

-- ---- whether all have ended
abbrev pub EndedBelow : List Task → ℕ → Type 0
EndedBelow jobs n = (j : ℕ) (task : Task) → j < n → slice_get jobs j ≡ Some task → (outcome : Outcome) × (task.stage ≡ Ended outcome)

has_ended : (stage : Stage) (end : Outcome) → ended stage ≡ Some end → stage ≡ Ended end
has_ended (Waiting input) end e = let no : None ≡ Some end = e in cc
has_ended (InHand state left) end e = let no : None ≡ Some end = e in cc
has_ended (Ended outcome) end e = let same : Some outcome ≡ Some end = e in cc

pub none_below : (jobs : List Task) → EndedBelow jobs 0
none_below jobs j task less at = absurd (omega arith)

pub one_below : (jobs : List Task) (n : ℕ) (end : Outcome) → outcome_at jobs n ≡ Some end → EndedBelow jobs n → EndedBelow jobs (n + 1)
one_below jobs n end is before j task less at = elim (cases_lt j n) [
  | inl under ↦ before j task under at
  | inr past ↦
      let here : slice_get jobs n ≡ Some task = subst (λ (k : ℕ). slice_get jobs k ≡ Some task) (omega arith) at in
      (end, has_ended task.stage end (sym (ap (λ (o : Option Task). option_and_then (λ t. ended t.stage) o) here) ∙ is))
]

pub some_below : (jobs : List Task) (n : ℕ) (o : Option Outcome) → is_some o ≡ true → o ≡ outcome_at jobs n → EndedBelow jobs n → EndedBelow jobs (n + 1)
some_below jobs n None some is before = let no : false ≡ true = some in cc
some_below jobs n (Some end) some is before = one_below jobs n end (sym is) before

pub all_below : (jobs : List Task) (n : ℕ) → length jobs ≤ n → EndedBelow jobs n → HaveEnded jobs
all_below jobs n past each j task at = let inside : j < length jobs = slice_get_within jobs j task at in each j task (omega arith) at

slice_get_in : (jobs : List Task) (n : ℕ) → n < length jobs → slice_get jobs n ≡ None → ⊥
slice_get_in [] n inside e = absurd (omega arith)
slice_get_in (t ∷ ts) zero inside e = let no : Some t ≡ None = e in cc
slice_get_in (t ∷ ts) (suc n) inside e = slice_get_in ts n (omega arith) e

pub not_all : (jobs : List Task) (n : ℕ) → n < length jobs → outcome_at jobs n ≡ None → HaveEnded jobs → ⊥
not_all jobs n inside none all = from (slice_get jobs n) refl
  where
    from : (o : Option Task) → slice_get jobs n ≡ o → ⊥
    from None e = absurd (slice_get_in jobs n inside e)
    from (Some task) e =
        let end = all n task e in
        let no : Some end.0 ≡ None = sym (ap ended end.1) ∙ sym (ap (λ (o : Option Task). option_and_then (λ t. ended t.stage) o) e) ∙ none in cc
