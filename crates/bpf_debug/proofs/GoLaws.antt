-- How far a `go` has come, turn by turn.
use Rattle.std.proofs.Common.{◌≡◌, ℕ, ◌+◌, ◌*◌, ◌<◌, ◌≤◌, Bool, true, false, ◌||◌, List, [], ◌∷◌, ◌++◌, length, get_or, inl, inr, ◌⊎◌, refl}
use Rattle.std.proofs.Common.{sym, ap, subst, ◌∙◌, arith, append_assoc, replicate}
use Rattle.std.specs.Prelude.{codes, slice_set, ◌==◌, nat_lt, IfSome, IfNone, Option, Some, None}
use Rattle.std.proofs.lemmas.List.{get_or-replicate, get_or-set_same, get_or-set_other, append-nil}
use Rattle.std.proofs.lemmas.Bool.{eq-eqb, ne_eqb, cases_lt, cases_order, le-ltb, lt-ltb}
use Rattle.bpf_plain.specs.PlainStore.{has_cpu}
use Rattle.bpf_shared.proofs.Puts.{equal_or_not}
use Rattle.bpf_cpu.specs.declared.outcome.Outcome.{Outcome}
use Rattle.bpf_machine.specs.declared.machine.Turn.{Turn}
use Rattle.bpf_machine.specs.declared.machine.Turn.TheVariants as turn
use Rattle.bpf_cpu.specs.declared.cpu.Cpu.{Cpu}
use Rattle.bpf_cpu.specs.Task.{Task}
use Rattle.bpf_machine.specs.Hands.{IsFree, NoneWaits}
use Rattle.bpf_machine.specs.Schedule.{World, Settles, TakesTurn, RunsSchedule}
use Rattle.bpf_machine.specs.Machine.{MachineState, Shows}
use Rattle.bpf_machine.specs.Questions.{turns_left, open_jobs, Falls, TurnsFall}
use Rattle.bpf_debug.specs.declared.breakpoint.Breakpoint.{Breakpoint}
use Rattle.bpf_debug.specs.Answer.{ended_text, changed_line, stop_line}
use Rattle.bpf_debug.specs.Course.{KeepsOn}
use Rattle.bpf_debug.proofs.CourseLaws.{keeps_none, keeps_more}
use Rattle.bpf_debug.specs.Go.{HasWork, AreIdle, IsUp, StandsAt, has_break, has_gone, Goes, Done, Stops, Changes, Turns}
use Rattle.bpf_debug.specs.Watch.{ShowsOther, ShowsWatched, Watched, watched_values}

-- ---- a CPU with work makes a turn
settles_works : (w : World) (c j : ℕ) (task : Task) (new : Cpu) (left : ℕ) (end : Option Outcome) (answer : Turn) (z : World)
    → Settles w c j task new left end answer z → answer ≡ turn.Idle → ⊥
settles_works w c j task new left None answer z s idle = let no : turn.Ran ≡ turn.Idle = sym s.0 ∙ idle in cc
settles_works w c j task new left (Some end) answer z s idle = let no : turn.Ended j end ≡ turn.Idle = sym s.2 ∙ idle in cc

pub free_has_no_work : (jobs : List Task) (c : ℕ) → HasWork jobs c → IsFree jobs c → NoneWaits jobs c → ⊥
free_has_no_work jobs c (inl hand) free none = free hand.0 hand.1 hand.2 hand.3 hand.4
free_has_no_work jobs c (inr next) free none = none next.0 next.1.1.0 next.1.1.1 next.1.1.2

pub works : (w z : World) (c : ℕ) (answer : Turn) → HasWork w.jobs c → TakesTurn w c answer z → answer ≡ turn.Idle → ⊥
works w z c answer has (inl t) idle = settles_works _ c t.0 t.1 t.5.3 t.5.4 t.5.1 answer z t.5.7 idle
works w z c answer has (inr (inl t)) idle = settles_works _ c t.1.0 t.1.1 t.1.7.3 t.1.7.4 t.1.7.1 answer z t.1.7.7 idle
works w z c answer has (inr (inr t)) idle = free_has_no_work w.jobs c has t.0 t.1

-- ---- who is next
pub idle_more : (jobs : List Task) (a b : ℕ) → AreIdle jobs a b → IsFree jobs b × NoneWaits jobs b → AreIdle jobs a (b + 1)
idle_more jobs a b before here d above below = elim (cases_lt d b) [
  | inl less ↦ before d above less
  | inr past ↦ (let same : b ≡ d = omega arith in let P : ℕ → Type 0 = λ n. IsFree jobs n × NoneWaits jobs n in subst P same here)
]

-- numbers that have the same numbers below them are one
same_count : (a b : ℕ) → ((c : ℕ) → nat_lt c a ≡ nat_lt c b) → a ≡ b
same_count a b same = elim (cases_order a b) [
  | inl e ↦ e
  | inr rest ↦ elim rest [
    | inl less ↦ let no : false ≡ true = sym (le-ltb a a (omega arith)) ∙ (same a ∙ lt-ltb a b less) in cc
    | inr more ↦ let no : false ≡ true = sym (le-ltb b b (omega arith)) ∙ (sym (same b) ∙ lt-ltb b a more) in cc
  ]
]

pub count_is : (m : MachineState) (n : ℕ) → ((c : ℕ) → has_cpu m.store c ≡ nat_lt c n) → n ≡ length m.store.maps.runs
count_is m n same = sym (same_count (length m.store.maps.runs) n same)

pub up_here : (jobs : List Task) (low high «from» c : ℕ) → low ≤ «from» → («from» ≤ c) × (c < high) × HasWork jobs c × AreIdle jobs «from» c
    → IsUp jobs low high «from» c
up_here jobs low high «from» c below found = record { above = omega (arith, found.0); within = found.1; works = found.2; first = inl (found.0, found.3) }

pub up_again : (jobs : List Task) (low high least «from» c : ℕ) → least ≤ high → least ≤ «from» → AreIdle jobs «from» high
    → (low ≤ c) × (c < least) × HasWork jobs c × AreIdle jobs low c → IsUp jobs low high «from» c
up_again jobs low high least «from» c small few none found =
    record { above = found.0; within = omega (arith, found.1); works = found.2; first = inr (omega (arith, found.1), none, found.3) }

pub all_idle : (jobs : List Task) (low high least «from» : ℕ) → (least ≡ «from») ⊎ (least ≡ high) → AreIdle jobs «from» high → AreIdle jobs
    low least → AreIdle jobs low high
all_idle jobs low high least «from» is beyond before d above below = elim (cases_lt d least) [
  | inl less ↦ before d above less
  | inr past ↦ elim is [ inl same ↦ beyond d (omega arith) below | inr same ↦ absurd (omega arith) ]
]

pub some_weaker : (P Q : ℕ → Type 0) (o : Option ℕ) → ((n : ℕ) → P n → Q n) → IfSome o P → IfSome o Q
some_weaker P Q None f h = tt
some_weaker P Q (Some n) f h = f n h

pub none_weaker : (A B : Type 0) (o : Option ℕ) → (A → B) → IfNone o A → IfNone o B
none_weaker A B None f h = f h
none_weaker A B (Some n) f h = tt

pub none_is : (A : Type 0) (o : Option ℕ) → IfNone o A → ((n : ℕ) → o ≡ Some n → ⊥) → A
none_is A None h never = h
none_is A (Some n) h never = absurd (never n refl)

-- ---- how far it has come

-- what is kept of the turns
abbrev pub Notes : Type 0
Notes = Option (List (ℕ × ℕ))

pub record Reached (breaks : List Breakpoint) (watch : Option Watched) (low high : ℕ) (noted : Notes) (w : World) (before : List ℕ)
    (new : MachineState) («from» : ℕ) (marks : List Bool) (notes : Notes) (after : List ℕ) : Type 0
  where
    pub here : World
    pub turns : List ℕ
    pub text : List ℕ
    pub gone : List ℕ
    pub shows : Shows new here
    pub keeps : KeepsOn noted turns notes
    pub put : after ≡ before ++ text
    pub marked : (c : ℕ) → c < 256 → get_or marks c false ≡ has_gone gone c
    pub onward : (rest more : List ℕ) (z : World) → Goes breaks watch low high here «from» gone rest more z
        → Goes breaks watch low high w low [] (turns ++ rest) (text ++ more) z

abbrev pub Comes : List Breakpoint → Option Watched → ℕ → ℕ → Notes → MachineState → List ℕ → MachineState → ℕ → List Bool → Notes → List ℕ → Type 0
Comes breaks watch low high noted old before new «from» marks notes after =
    (w : World) → Shows old w → Reached breaks watch low high noted w before new «from» marks notes after

pub starts : (breaks : List Breakpoint) (watch : Option Watched) (low high : ℕ) (noted : Notes) (old : MachineState) (before : List ℕ) →
    Comes breaks watch low high noted old before old low (replicate 256 false) noted before
starts breaks watch low high noted old before w shows = record {
  here = w;
  turns = [];
  text = [];
  gone = [];
  shows = shows;
  keeps = keeps_none noted;
  put = sym (append-nil before);
  marked = λ c small. get_or-replicate 256 c false false small;
  onward = λ rest more z goes. goes;
}

has_gone-cons : (c : ℕ) (gone : List ℕ) (d : ℕ) → has_gone (c ∷ gone) d ≡ ((c == d) || has_gone gone d)
has_gone-cons c gone d = refl

-- the mark of a CPU that has made its turn
marked_more : (marks : List Bool) (gone : List ℕ) (c : ℕ) → c < length marks → ((d : ℕ) → d < 256 → get_or marks d false ≡ has_gone gone d)
    → (d : ℕ) → d < 256 → get_or (slice_set marks c true) d false ≡ has_gone (c ∷ gone) d
marked_more marks gone c inside was d small = elim (equal_or_not d c) [
  | inl e ↦
      let P : ℕ → Type 0 = λ n. get_or (slice_set marks c true) n false ≡ has_gone (c ∷ gone) n in
      let gone_now : has_gone (c ∷ gone) c ≡ true = has_gone-cons c gone c ∙ ap (λ (b : Bool). b || has_gone gone c) (eq-eqb c c refl) in
      subst P (sym e) (get_or-set_same marks c true false inside ∙ sym gone_now)
  | inr ne ↦
      let others : has_gone (c ∷ gone) d ≡ has_gone gone d = has_gone-cons c gone d ∙ ap (λ (b : Bool). b || has_gone gone d)
      (ne_eqb c d (λ (e : c ≡ d). ne (sym e))) in
      get_or-set_other marks c d true false ne ∙ was d small ∙ sym others
]

module _ (breaks : List Breakpoint) (watch : Option Watched) (low high : ℕ) (noted : Notes) (old new : MachineState) (before : List ℕ)
    («from» : ℕ) (marks : List Bool) (notes : Notes) (after : List ℕ)
    (comes : Comes breaks watch low high noted old before new «from» marks notes after) where
  -- it may make a turn
  free : (c : ℕ) → c < 256 → ((get_or marks c false ≡ false) ⊎ ((p : ℕ) × StandsAt new.jobs c p × (has_break breaks c p ≡ false)))
      → (gone : List ℕ) (here : World) → Shows new here → ((d : ℕ) → d < 256 → get_or marks d false ≡ has_gone gone d)
      → (has_gone gone c ≡ false) ⊎ ((p : ℕ) × StandsAt here.jobs c p × (has_break breaks c p ≡ false))
  free c small may gone here shown marked = elim may [
    | inl never ↦ inl (sym (marked c small) ∙ never)
    | inr at ↦ (let P : List Task → Type 0 = λ jobs. StandsAt jobs c at.0 in inr (at.0, subst P (sym shown.jobs) at.1, at.2))
  ]

  -- the CPU that is up makes its turn, which leaves the watched value as it was
  pub turned : (next : MachineState) (c : ℕ) (answer : Turn) (more : Notes) → c < 256 → c < length marks
      → IsUp new.jobs low high «from» c
      → ((get_or marks c false ≡ false) ⊎ ((p : ℕ) × StandsAt new.jobs c p × (has_break breaks c p ≡ false)))
      → ((w : World) → Shows new w → (z : World) × TakesTurn w c answer z × Shows next z)
      → KeepsOn notes (c ∷ []) more
      → (values : List (Option (List ℕ))) → ShowsWatched new.store watch values → ShowsWatched next.store watch values
      → Comes breaks watch low high noted old before next (c + 1) (slice_set marks c true) more (after ++ ended_text c answer)
  turned next c answer more small inside up may turns keeps values was is w shows =
      let r = comes w shows in
      let t = turns r.here r.shows in
      let J : List Task → Type 0 = λ jobs. IsUp jobs low high «from» c in
      let is_up = subst J (sym r.shows.jobs) up in
      record {
        here = t.0;
        turns = r.turns ++ c ∷ [];
        text = r.text ++ ended_text c answer;
        gone = c ∷ r.gone;
        shows = t.2;
        keeps = keeps_more noted notes more r.turns (c ∷ []) r.keeps keeps;
        put = ap (λ (s : List ℕ). s ++ ended_text c answer) r.put ∙ append_assoc before r.text (ended_text c answer);
        marked = marked_more marks r.gone c inside r.marked;
        onward = λ rest more z goes. (
            let still = is t.0.store t.2.sound t.2.store ∙ sym (was r.here.store r.shows.sound r.shows.store) in
            let one = Turns is_up (free c small may r.gone r.here r.shows r.marked) t.1 still goes in
            let all = r.onward (c ∷ rest) (ended_text c answer ++ more) z one in
            let P : List ℕ → Type 0 = λ xs. Goes breaks watch low high w low [] xs (r.text ++ (ended_text c answer ++ more)) z in
            let Q : List ℕ → Type 0 = λ xs. Goes breaks watch low high w low [] ((r.turns ++ c ∷ []) ++ rest) xs z in
            subst Q (sym (append_assoc r.text (ended_text c answer) more)) (subst P (sym (append_assoc r.turns (c ∷ []) rest)) all));
      }

  -- what a `go` has made of the machine and the notes, and its text
  abbrev pub Leads : MachineState → Notes → List ℕ → Type 0
  Leads final kept last =
      (w : World) → Shows old w → (z : World) × (turns : List ℕ) × (text : List ℕ) × Goes breaks watch low high w low [] turns text z ×
      Shows final z × KeepsOn noted turns kept × (last ≡ before ++ text)

  abbrev pub Ends : List ℕ → Type 0
  Ends last = Leads new notes last

  -- it makes its turn, which changes the watched value
  pub changed : (next : MachineState) (c : ℕ) (answer : Turn) (more : Notes) → c < 256
      → IsUp new.jobs low high «from» c
      → ((get_or marks c false ≡ false) ⊎ ((p : ℕ) × StandsAt new.jobs c p × (has_break breaks c p ≡ false)))
      → ((w : World) → Shows new w → (z : World) × TakesTurn w c answer z × Shows next z)
      → KeepsOn notes (c ∷ []) more
      → (values : List (Option (List ℕ))) → ShowsWatched new.store watch values → ShowsOther next.store watch values
      → Leads next more ((after ++ ended_text c answer) ++ changed_line c)
  changed next c answer more small up may turns keeps values was other w shows =
      let r = comes w shows in
      let t = turns r.here r.shows in
      let J : List Task → Type 0 = λ jobs. IsUp jobs low high «from» c in
      let is_up = subst J (sym r.shows.jobs) up in
      let line = ended_text c answer ++ changed_line c in
      let differs : watched_values watch t.0.store ≡ watched_values watch r.here.store → ⊥ = λ e. other t.0.store t.2.sound t.2.store
      (e ∙ was r.here.store r.shows.sound r.shows.store) in (
        t.0,
        r.turns ++ c ∷ [],
        r.text ++ line,
        r.onward (c ∷ []) line t.0 (Changes is_up (free c small may r.gone r.here r.shows r.marked) t.1 differs),
        t.2,
        keeps_more noted notes more r.turns (c ∷ []) r.keeps keeps,
        append_assoc after (ended_text c answer) (changed_line c) ∙ ap (λ (s : List ℕ). s ++ line) r.put ∙ append_assoc before r.text line,
      )

  pub ended : AreIdle new.jobs low high → Ends (after ++ codes "done\n")
  ended idle w shows =
      let r = comes w shows in
      let J : List Task → Type 0 = λ jobs. AreIdle jobs low high in
      let still = subst J (sym r.shows.jobs) idle in (
        r.here,
        r.turns ++ [],
        r.text ++ codes "done\n",
        r.onward [] (codes "done\n") r.here (Done still),
        r.shows,
        subst (λ (cs : List ℕ). KeepsOn noted cs notes) (sym (append-nil r.turns)) r.keeps,
        ap (λ (s : List ℕ). s ++ codes "done\n") r.put ∙ append_assoc before r.text (codes "done\n"),
      )

  pub stopped : (c p : ℕ) → c < 256 → IsUp new.jobs low high «from» c → get_or marks c false ≡ true
      → StandsAt new.jobs c p → has_break breaks c p ≡ true → Ends (after ++ stop_line c p)
  stopped c p small up went stands break w shows =
      let r = comes w shows in
      let J : List Task → Type 0 = λ jobs. IsUp jobs low high «from» c in
      let S : List Task → Type 0 = λ jobs. StandsAt jobs c p in
      let is_up = subst J (sym r.shows.jobs) up in (
        r.here,
        r.turns ++ [],
        r.text ++ stop_line c p,
        r.onward [] (stop_line c p) r.here (Stops is_up (sym (r.marked c small) ∙ went) (subst S (sym r.shows.jobs) stands) break),
        r.shows,
        subst (λ (cs : List ℕ). KeepsOn noted cs notes) (sym (append-nil r.turns)) r.keeps,
        ap (λ (s : List ℕ). s ++ stop_line c p) r.put ∙ append_assoc before r.text (stop_line c p),
      )

-- ---- the measure, and the room
pub falls : TurnsFall → (breaks : List Breakpoint) (watch : Option Watched) (low high : ℕ) (noted notes : Notes)
    (old new next : MachineState) (before after : List ℕ) («from» : ℕ) (marks : List Bool) (c : ℕ) (answer : Turn)
    → (w : World) → Shows old w → Comes breaks watch low high noted old before new «from» marks notes after
    → ((w : World) → Shows new w → (z : World) × TakesTurn w c answer z × Shows next z)
    → Falls answer new.jobs next.jobs
falls law breaks watch low high noted notes old new next before after «from» marks c answer w shows comes turns =
    let r = comes w shows in
    let t = turns r.here r.shows in
    let f = (law r.here t.0 c answer t.1).0 in
    let P : List Task → Type 0 = λ jobs. Falls answer jobs t.0.jobs in
    let Q : List Task → Type 0 = λ jobs. Falls answer new.jobs jobs in
    subst Q t.2.jobs (subst P r.shows.jobs f)

pub not_idle : (breaks : List Breakpoint) (watch : Option Watched) (low high : ℕ) (noted notes : Notes) (old new next : MachineState)
    (before after : List ℕ) («from» : ℕ) (marks : List Bool) (c : ℕ) (answer : Turn)
    → (w : World) → Shows old w → Comes breaks watch low high noted old before new «from» marks notes after → HasWork new.jobs c
    → ((w : World) → Shows new w → (z : World) × TakesTurn w c answer z × Shows next z)
    → answer ≡ turn.Idle → ⊥
not_idle breaks watch low high noted notes old new next before after «from» marks c answer w shows comes has turns idle =
    let r = comes w shows in
    let t = turns r.here r.shows in
    let P : List Task → Type 0 = λ jobs. HasWork jobs c in
    works r.here t.0 c answer (subst P (sym r.shows.jobs) has) t.1 idle

pub fewer : (answer : Turn) (old new : List Task) → Falls answer old new → (answer ≡ turn.Idle → ⊥) → turns_left new < turns_left old
fewer turn.Ran old new f works = f.0
fewer (turn.Ended j end) old new f works = f.0
fewer turn.Idle old new f works = absurd (works refl)

-- the room that is left is enough
pub room_left : (answer : Turn) (old new : List Task) (size more room wide : ℕ) → Falls answer old new → (answer ≡ turn.Idle → ⊥)
    → size + 128 * open_jobs old + 128 ≤ room → room ≤ wide → more ≤ size + 128
    → (((j : ℕ) (end : Outcome) → answer ≡ turn.Ended j end → ⊥) → more ≡ size)
    → more + 128 * open_jobs new + 128 ≤ wide
room_left turn.Ran old new size more room wide f works fits grows most none =
    let same : more ≡ size = none (λ j end e. cc) in
    let opens : open_jobs new ≡ open_jobs old = f.1 in
    let step : 128 * open_jobs new ≡ 128 * open_jobs old = ap (λ (n : ℕ). 128 * n) opens in
    omega arith
room_left (turn.Ended j end) old new size more room wide f works fits grows most none =
    let opens : open_jobs new + 1 ≡ open_jobs old = f.1 in
    let step : 128 * (open_jobs new + 1) ≡ 128 * open_jobs old = ap (λ (n : ℕ). 128 * n) opens in
    omega arith
room_left turn.Idle old new size more room wide f works fits grows most none = absurd (works refl)

-- ---- the turns of a `go` are a schedule
pub goes_runs : (breaks : List Breakpoint) (watch : Option Watched) (low high : ℕ) (w : World) («from» : ℕ) (gone turns text : List ℕ)
    (z : World) → Goes breaks watch low high w «from» gone turns text z → RunsSchedule w turns z
goes_runs breaks watch low high w «from» gone turns text z (Done idle) = refl
goes_runs breaks watch low high w «from» gone turns text z (Stops up went stands break) = refl
goes_runs breaks watch low high w «from» gone turns text z (Turns {answer = answer} {m = m} up may takes still goes) =
    (answer, m, takes, goes_runs breaks watch low high m _ _ _ _ z goes)
goes_runs breaks watch low high w «from» gone turns text z (Changes {answer = answer} {m = m} up may takes differs) = (answer, m, takes, refl)
