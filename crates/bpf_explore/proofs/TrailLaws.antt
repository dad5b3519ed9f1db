-- Schedules that lead to kept machines.
use Rattle.std.proofs.Common.{◌≡◌, ◌∙◌, ℕ, zero, suc, ◌+◌, ◌<◌, ◌≤◌, List, [], ◌∷◌, ◌++◌, Some, inl, inr, length, take, replicate, reverse}
use Rattle.std.proofs.Common.{refl, sym, ap, subst, append_assoc, length-append, add-one, arith}
use Rattle.std.specs.Prelude.{slice_get, slice_index_or}
use Rattle.std.proofs.Math.ListN.{get_or-append}
use Rattle.std.proofs.Math.Seq.{get_or-append_seam}
use Rattle.std.proofs.lemmas.Bool.{cases_lt}
use Rattle.std.proofs.lemmas.List.{reverse-append, replicate-append-replicate, take_all, take-append-le}
use Rattle.std.proofs.lemmas.Option.{slice_get_within, slice_get_read, get_or_from_slice_get}
use Rattle.bpf_base.proofs.Lists.{slice_get-front}
use Rattle.bpf_machine.specs.Machine.{MachineState, Shows}
use Rattle.bpf_machine.specs.Schedule.{World, RunsSchedule, unrolled}
use Rattle.bpf_machine.specs.Ends.{RunsFreely}
use Rattle.bpf_machine.specs.Headways.{with_jobs}
use Rattle.bpf_machine.specs.Patient.{AsRich, AreRefilled}
use Rattle.bpf_machine.proofs.PatientLaws.{all_same, rich_again}
use Rattle.bpf_cpu.specs.Task.{Task}
use Rattle.bpf_explore.specs.declared.explorer.Origin.{Origin}
use Rattle.bpf_explore.specs.Album.{IsShownAt, LeadsThrough, AreLed, AreLedFreely}
use Rattle.bpf_explore.specs.Outcomes.{AreReached}
use Rattle.bpf_explore.specs.Patient.{AreReachedFreely}
use Rattle.bpf_explore.specs.Private.Album.{AddsOne}
use Rattle.bpf_explore.specs.Private.Trail.{no_origin, origin_at, IsOrigin, AreOrigins, StayAndJoin}

-- ---- schedules, one after the other
runs_both : (w : World) (cs ds : List ℕ) (m z : World) → RunsSchedule w cs m → RunsSchedule m ds z → RunsSchedule w (cs ++ ds) z
runs_both w [] ds m z first second = subst (λ (x : World). RunsSchedule x ds z) first second
runs_both w (c ∷ cs) ds m z first second = (first.0, first.1, first.2, runs_both first.1 cs ds m z first.3 second)

pub schedules_join : StayAndJoin RunsSchedule
schedules_join = (λ w. refl, λ w m z cs ds first second. runs_both w cs ds m z first second)

-- the same where jobs are given steps: those at the end of the first are given before the second
pub gift_first : (cs : List ℕ) (w z : World) (jobs : List Task) → AsRich w.jobs jobs → RunsFreely (with_jobs w jobs) cs z → RunsFreely w cs z
gift_first [] w z jobs rich (more, richer, same) = (more, rich_again w.jobs jobs more rich richer, same)
gift_first (c ∷ cs) w z jobs rich (more, answer, m, richer, progress, runs) = (more, answer, m, rich_again w.jobs jobs more rich richer, progress, runs)

freely_both : (cs ds : List ℕ) (w m z : World) → RunsFreely w cs m → RunsFreely m ds z → RunsFreely w (cs ++ ds) z
freely_both [] ds w m z (jobs, rich, same) freely = gift_first ds w z jobs rich (subst (λ (x : World). RunsFreely x ds z) same freely)
freely_both (c ∷ cs) ds w m z (jobs, answer, y, rich, progress, runs) freely = (jobs, answer, y, rich, progress, freely_both cs ds y m z runs freely)

pub free_runs_join : StayAndJoin RunsFreely
free_runs_join = (λ w. (w.jobs, all_same w.jobs, refl), λ w m z cs ds first second. freely_both cs ds w m z first second)

-- ---- run lengths that are printed backwards
pub one_back : (by : List (ℕ × ℕ)) (cpu turns : ℕ) → unrolled (reverse (by ++ (cpu, turns) ∷ [])) ≡ replicate turns cpu ++ unrolled (reverse by)
one_back by cpu turns = ap unrolled (reverse-append by ((cpu, turns) ∷ []))

pub more_back : (by : List (ℕ × ℕ)) (cpu more turns sum : ℕ) → sum ≡ more + turns → unrolled (reverse (by ++ (cpu, sum) ∷ [])) ≡ replicate
    turns cpu ++ unrolled (reverse (by ++ (cpu, more) ∷ []))
more_back by cpu more turns sum e =
    let both : replicate turns cpu ++ replicate more cpu ≡ replicate sum cpu = replicate-append-replicate turns more cpu ∙ ap
    (λ (n : ℕ). replicate n cpu) (let t : turns + more ≡ sum = omega arith in t) in
    one_back by cpu sum
    ∙ (ap (λ (cs : List ℕ). cs ++ unrolled (reverse by)) (sym both)
    ∙ (append_assoc (replicate turns cpu) (replicate more cpu) (unrolled (reverse by)) ∙ ap (λ (cs : List ℕ). replicate turns cpu ++ cs)
    (sym (one_back by cpu more))))

-- ---- schedules of one kind
module _ (runs : World → List ℕ → World → Type 0) (join : StayAndJoin runs) where
  -- ---- the way to a machine
  pub leads_both : (kept : List MachineState) (i j k : ℕ) (cs ds : List ℕ) → LeadsThrough runs kept i cs j → LeadsThrough runs kept j ds k →
      LeadsThrough runs kept i (cs ++ ds) k
  leads_both kept i j k cs ds first second w shown =
      let a = first w shown in
      let b = second a.0 a.2 in
      (b.0, join.1 w a.0 b.0 cs ds a.1 b.1, b.2)

  pub leads_nowhere : (kept : List MachineState) (i : ℕ) → LeadsThrough runs kept i [] i
  leads_nowhere kept i w shown = (w, join.0 w, shown)

  -- ---- the way back from a machine
  pub read_origin : (origins : List Origin) (i : ℕ) (o : Origin) → i < length origins → o ≡ slice_index_or origins i o → origin_at origins i ≡ o
  read_origin origins i o inside read = get_or_from_slice_get origins i o no_origin (slice_get_read origins (length origins) i o refl inside read)

  pub one_back_more : (kept : List MachineState) (origins : List Origin) (state place : ℕ) (o : Origin) (by new : List (ℕ × ℕ)) → AreOrigins
      runs kept origins → 0 < state → state < length kept → origin_at origins state ≡ o → LeadsThrough runs kept state (unrolled (reverse by)) place
      → unrolled (reverse new) ≡ replicate (o.ahead + 1) o.cpu ++ unrolled (reverse by) → (o.«from» < length kept) × LeadsThrough runs kept
      o.«from» (unrolled (reverse new)) place
  one_back_more kept origins state place o by new are some inside at leads e =
      let is = subst (IsOrigin runs kept state) at (are.each state some inside) in
      let before = is.before in
      let turns : replicate (o.ahead + 1) o.cpu ≡ o.cpu ∷ replicate o.ahead o.cpu = ap (λ (n : ℕ). replicate n o.cpu) (add-one o.ahead) in
      let all : unrolled (reverse new) ≡ (o.cpu ∷ replicate o.ahead o.cpu) ++ unrolled (reverse by) = e ∙ ap
      (λ (cs : List ℕ). cs ++ unrolled (reverse by)) turns in (
        omega arith,
        subst (λ (cs : List ℕ). LeadsThrough runs kept o.«from» cs place) (sym all)
            (leads_both kept o.«from» state place (o.cpu ∷ replicate o.ahead o.cpu) (unrolled (reverse by)) is.leads leads),
      )

  -- ---- while more are kept
  module _ (old more : List MachineState) where
    pub shown_still : (i : ℕ) (w : World) → IsShownAt old i w → IsShownAt (old ++ more) i w
    shown_still i w (m, at, shows) = (m, slice_get-front old more i (slice_get_within old i m at) ∙ at, shows)

    pub shown_before : (i : ℕ) (w : World) → i < length old → IsShownAt (old ++ more) i w → IsShownAt old i w
    shown_before i w inside (m, at, shows) = (m, sym (slice_get-front old more i inside) ∙ at, shows)

    pub leads_still : (i j : ℕ) (cs : List ℕ) → i < length old → LeadsThrough runs old i cs j → LeadsThrough runs (old ++ more) i cs j
    leads_still i j cs inside leads w shown = let r = leads w (shown_before i w inside shown) in (r.0, r.1, shown_still j r.0 r.2)

    origin_still : (i : ℕ) (o : Origin) → i < length old → IsOrigin runs old i o → IsOrigin runs (old ++ more) i o
    origin_still i o inside is = record {
      before = is.before;
      leads = leads_still o.«from» i (o.cpu ∷ replicate o.ahead o.cpu)
          (let b = is.before in omega arith) is.leads;
    }

  -- the turns from an earlier one, of which it is known where they led
  abbrev pub LedThere : List MachineState → Origin → MachineState → Type 0
  LedThere kept o m = (w : World) → IsShownAt kept o.«from» w → (z : World) × runs w (o.cpu ∷ replicate o.ahead o.cpu) z × Shows m z

  pub led_there : (kept : List MachineState) (restored after : MachineState) (place : ℕ) (o : Origin) (made : ℕ) → slice_get kept place ≡
      Some restored → o.«from» ≡ place → o.ahead ≡ made
      → ((w : World) → Shows restored w → (z : World) × runs w (o.cpu ∷ replicate made o.cpu) z × Shows after z) → LedThere kept o after
  led_there kept restored after place o made at here turns leads w (m, there, shows) =
      let two : Some m ≡ Some restored = sym there ∙ (ap (slice_get kept) here ∙ at) in
      let one : m ≡ restored = cc in
      let r = leads w (subst (λ (n : MachineState). Shows n w) one shows) in
      (r.0, subst (λ (n : ℕ). runs w (o.cpu ∷ replicate n o.cpu) r.0) (sym turns) r.1, r.2)

  at_last : (old : List MachineState) (one : MachineState) → slice_get (old ++ one ∷ []) (length old) ≡ Some one
  at_last [] one = refl
  at_last (x ∷ xs) one = at_last xs one

  pub kept_origins : (old new : List MachineState) (m : MachineState) (origins : List Origin) (o : Origin) → AreOrigins runs old origins →
      o.«from» < length old → LedThere old o m → AddsOne old m new → AreOrigins runs new (take (length new) (origins ++ o ∷ []))
  kept_origins old new m origins o are inside led (inl e) =
      let count = are.count in
      let size : length new ≡ length origins = ap (λ (ms : List MachineState). length ms) e ∙ sym count in
      let all : take (length new) (origins ++ o ∷ []) ≡ origins = take-append-le (length new) origins (o ∷ []) (omega arith) ∙ take_all
      (length new) origins (omega arith) in
      subst (λ (ms : List MachineState). AreOrigins runs ms (take (length new) (origins ++ o ∷ []))) (sym e) (subst (AreOrigins runs old) (sym all) are)
  kept_origins old new m origins o are inside led (inr (one, e, shows)) =
      let count = are.count in
      let both = length-append origins (o ∷ []) in
      let more = length-append old (one ∷ []) in
      let size : length new ≡ length (old ++ one ∷ []) = ap (λ (ms : List MachineState). length ms) e in
      let all : take (length new) (origins ++ o ∷ []) ≡ origins ++ o ∷ [] = take_all (length new) (origins ++ o ∷ []) (omega arith) in
      let now : AreOrigins runs (old ++ one ∷ []) (origins ++ o ∷ []) = record {
        count = omega arith;
        each = λ i some less. elim (cases_lt i (length old)) [
          | inl below ↦
              subst (IsOrigin runs (old ++ one ∷ []) i) (sym (get_or-append origins (o ∷ []) no_origin i (omega arith)))
              (origin_still old (one ∷ []) i (origin_at origins i) below (are.each i some below))
          | inr past ↦
              let last : i ≡ length old = omega arith in
              let place : length origins ≡ i = omega arith in
              let at : origin_at (origins ++ o ∷ []) i ≡ o = ap (origin_at (origins ++ o ∷ [])) (sym place) ∙ get_or-append_seam origins o [] no_origin in
              subst (IsOrigin runs (old ++ one ∷ []) i) (sym at) (subst (λ (k : ℕ). IsOrigin runs (old ++ one ∷ []) k o) (sym last) (record {
                before = inside;
                leads = λ w shown. (let r = led w (shown_before old (one ∷ []) o.«from» w inside shown) in (r.0, r.1, (one, at_last old one, shows r.0 r.2)));
              }))
        ];
      } in
      subst (λ (ms : List MachineState). AreOrigins runs ms (take (length new) (origins ++ o ∷ []))) (sym e)
      (subst (AreOrigins runs (old ++ one ∷ [])) (sym all) now)

  -- as many of the origins as machines are kept
  pub cut_origins : (old new : List MachineState) (m : MachineState) (origins pushed cut : List Origin) (o : Origin) (n : ℕ) → AreOrigins
      runs old origins → o.«from» < length old → LedThere old o m → AddsOne old m new → pushed ≡ origins ++ o ∷ [] → n ≡ length new → cut ≡
      take n pushed → AreOrigins runs new cut
  cut_origins old new m origins pushed cut o n are inside led adds push count is =
      subst (AreOrigins runs new) (sym (is ∙ (ap (λ (k : ℕ). take k pushed) count ∙ ap (take (length new)) push)))
      (kept_origins old new m origins o are inside led adds)

  -- ---- a schedule to each
  led_below : (kept : List MachineState) (origins : List Origin) → AreOrigins runs kept origins → (n i : ℕ) → i < n → i < length kept →
      (schedule : List ℕ) × LeadsThrough runs kept 0 schedule i
  led_below kept origins are zero i less inside = absurd (omega arith)
  led_below kept origins are (suc n) zero less inside = ([], leads_nowhere kept 0)
  led_below kept origins are (suc n) (suc i) less inside =
      let o = origin_at origins (suc i) in
      let is = are.each (suc i) (omega arith) inside in
      let before = is.before in
      let far = led_below kept origins are n o.«from» (omega arith) (omega arith) in
      (far.0 ++ (o.cpu ∷ replicate o.ahead o.cpu), leads_both kept 0 o.«from» (suc i) far.0 (o.cpu ∷ replicate o.ahead o.cpu) far.1 is.leads)

  pub are_led : (kept : List MachineState) (origins : List Origin) → AreOrigins runs kept origins →
      ((i : ℕ) → i < length kept → (schedule : List ℕ) × LeadsThrough runs kept 0 schedule i)
  are_led kept origins are i inside = led_below kept origins are (suc i) i (omega arith) inside

  -- ---- n machines are reached
  pub record Reached (kept : List MachineState) (w : World) (n : ℕ) : Type 0 where
    pub worlds : List World
    pub count : length worlds ≡ n
    pub each : (i : ℕ) (z : World) → slice_get worlds i ≡ Some z → IsShownAt kept i z × ((schedule : List ℕ) × runs w schedule z)

  world_at_end : (ws : List World) (z : World) → slice_get (ws ++ z ∷ []) (length ws) ≡ Some z
  world_at_end [] z = refl
  world_at_end (x ∷ xs) z = world_at_end xs z

  last_reached : (kept : List MachineState) (w : World) (n : ℕ) (worlds : List World) (schedule : List ℕ) (y : World) → length worlds ≡ n →
      runs w schedule y → IsShownAt kept n y → (i : ℕ) (z : World) → n ≤ i → slice_get (worlds ++ y ∷ []) i ≡ Some z
      → IsShownAt kept i z × ((cs : List ℕ) × runs w cs z)
  last_reached kept w n worlds schedule y count led shown i z past at =
      let both = length-append worlds (y ∷ []) in
      let inside = slice_get_within (worlds ++ y ∷ []) i z at in
      let last : n ≡ i = omega arith in
      let place : length worlds ≡ i = omega arith in
      let two : Some y ≡ Some z = sym (world_at_end worlds y) ∙ (ap (slice_get (worlds ++ y ∷ [])) place ∙ at) in
      let one : y ≡ z = cc in
      (subst (λ (k : ℕ). IsShownAt kept k z) last (subst (IsShownAt kept n) one shown), (schedule, subst (runs w schedule) one led))

  one_more_reached : (kept : List MachineState) (w : World) (n : ℕ) (far : Reached kept w n) (schedule : List ℕ) (y : World) → runs w
      schedule y → IsShownAt kept n y → Reached kept w (suc n)
  one_more_reached kept w n far schedule y led shown = record {
    worlds = far.worlds ++ y ∷ [];
    count = (let count = far.count in let both = length-append far.worlds (y ∷ []) in omega arith);
    each = λ i z at. elim (cases_lt i n) [
      | inl below ↦ far.each i z (sym (slice_get-front far.worlds (y ∷ []) i (let count = far.count in omega arith)) ∙ at)
      | inr past ↦ last_reached kept w n far.worlds schedule y far.count led shown i z past at
    ];
  }

  pub reached_below : (kept : List MachineState) (w : World) → IsShownAt kept 0 w →
      ((i : ℕ) → i < length kept → (schedule : List ℕ) × LeadsThrough runs kept 0 schedule i) → (n : ℕ) → n ≤ length kept → Reached kept w n
  reached_below kept w first led zero within = record { worlds = []; count = refl; each = λ i z at. cc }
  reached_below kept w first led (suc n) within =
      let way = led n (omega arith) in
      let r = way.1 w first in
      one_more_reached kept w n (reached_below kept w first led n (omega arith)) way.0 r.0 r.1 r.2

pub are_reached : (kept : List MachineState) (w : World) → IsShownAt kept 0 w → AreLed kept →
    ((i j : ℕ) (z : World) → IsShownAt kept i z → IsShownAt kept j z → i ≡ j) → AreReached w (length kept)
are_reached kept w first led apart =
    let all = reached_below RunsSchedule schedules_join kept w first led (length kept) (omega arith) in
    record {
      worlds = all.worlds;
      count = all.count;
      reached = λ i z at. (all.each i z at).1;
      apart = λ i j z at there. apart i j z (all.each i z at).0 (all.each j z there).0;
    }

-- the same where jobs are given steps on the way, and each in hand has its whole budget left
refilled_there : (kept : List MachineState) (i : ℕ) (z : World) →
    ((j : ℕ) (m : MachineState) → slice_get kept j ≡ Some m → AreRefilled m.jobs) → IsShownAt kept i z → AreRefilled z.jobs
refilled_there kept i z whole (m, at, shows) = subst AreRefilled (sym shows.jobs) (whole i m at)

pub are_reached_freely : (kept : List MachineState) (w : World) → IsShownAt kept 0 w → AreLedFreely kept →
    ((i : ℕ) (m : MachineState) → slice_get kept i ≡ Some m → AreRefilled m.jobs) →
    ((i j : ℕ) (z : World) → IsShownAt kept i z → IsShownAt kept j z → i ≡ j)
    → AreReachedFreely w (length kept)
are_reached_freely kept w first led whole apart =
    let all = reached_below RunsFreely free_runs_join kept w first led (length kept) (omega arith) in
    record {
      worlds = all.worlds;
      count = all.count;
      reached = λ i z at. (let r = all.each i z at in (r.1.0, r.1.1, refilled_there kept i z whole r.0));
      apart = λ i j z at there. apart i j z (all.each i z at).0 (all.each j z there).0;
    }
