-- Turns that are made one after the other, as they are printed.
use Rattle.std.proofs.Common.{◌≡◌, ◌∙◌, Bool, false, Option, Some, ℕ, zero, suc, ◌+◌, ◌-◌, ◌<◌, ◌≤◌, List, [], ◌∷◌, ◌++◌, append_assoc}
use Rattle.std.proofs.Common.{append-nil, length, take, replicate, get_or, map, inl, inr, refl, sym, ap, subst, arith}
use Rattle.std.proofs.lemmas.List.{replicate-append-replicate, take_more, take_all}
use Rattle.std.proofs.lemmas.Grind.{replicate_next}
use Rattle.std.specs.Prelude.{nat_lt, slice_get}
use Rattle.std.proofs.lemmas.Bool.{cases_lt, ltb-true}
use Rattle.bpf_shared.specs.declared.events.Event.{Event}
use Rattle.bpf_plain.specs.PlainStore.{has_cpu}
use Rattle.bpf_cpu.specs.Task.{Task}
use Rattle.bpf_machine.specs.declared.machine.Turn.{Turn}
use Rattle.bpf_machine.specs.declared.machine.Turn.TheVariants.{Ended, Idle}
use Rattle.bpf_machine.specs.Hands.{IsFree, NoneWaits}
use Rattle.bpf_cpu.specs.declared.outcome.Outcome.{Outcome}
use Rattle.bpf_shared.specs.declared.events.Event.TheVariants as event
use Rattle.bpf_machine.specs.Happenings.{Happening, happening, end_events, Happens, RunsWith}
use Rattle.bpf_machine.specs.Machine.{MachineState, Shows}
use Rattle.bpf_machine.specs.Parts.{CanStand}
use Rattle.bpf_machine.specs.Rounds.{below, HaveEnded}
use Rattle.bpf_machine.specs.Schedule.{World, TakesTurn, unrolled}
use Rattle.bpf_machine.proofs.RoundLaws.{all_ended, cpus_shown, idle_turn}
use Rattle.bpf_events.specs.Lines.{happening_line, history_lines}
use Rattle.bpf_events.specs.declared.note.Note.{Note}
use Rattle.bpf_events.specs.Private.Recording.{event_of}
use Rattle.bpf_events.specs.Private.Told.{ARound, AreTold, OneTurn, SomeRounds, Turns}
use Rattle.bpf_events.specs.Private.Watching.{IsWatched, noted}

-- ---- texts
pub history-append : (names : List (List ℕ)) (xs ys : List Happening) → history_lines names (xs ++ ys) ≡ history_lines names xs ++ history_lines names ys
history-append names [] ys = refl
history-append names (x ∷ xs) ys =
    ap (λ (text : List ℕ). happening_line names x ++ text) (history-append names xs ys) ∙ sym
    (append_assoc (happening_line names x) (history_lines names xs) (history_lines names ys))

-- ---- one after the other
pub told_nothing : (names : List (List ℕ)) (m : MachineState) (text : List ℕ) → AreTold (Turns []) names m text m text
told_nothing names m text w shows = (w, [], (refl, refl), shows, sym (append-nil text))

pub no_rounds : (names : List (List ℕ)) (m : MachineState) (text : List ℕ) → AreTold SomeRounds names m text m text
no_rounds names m text w shows = (w, [], (0, (refl, refl)), shows, sym (append-nil text))

abbrev Leads : Type 1
Leads = World → List Happening → World → Type 0

pub told_join : (first second both : Leads) (names : List (List ℕ)) (old mid new : MachineState) (text between later : List ℕ)
    → ((w y z : World) (xs ys : List Happening) → first w xs y → second y ys z → both w (xs ++ ys) z)
    → AreTold first names old text mid between → AreTold second names mid between new later → AreTold both names old text new later
told_join first second both names old mid new text between later join before after w shows =
    let r = before w shows in
    let t = after r.0 r.3 in
    let all : later ≡ text ++ history_lines names (r.1 ++ t.1) =
    t.4 ∙ (ap (λ (x : List ℕ). x ++ history_lines names t.1) r.4
    ∙ (append_assoc text (history_lines names r.1) (history_lines names t.1) ∙ ap (λ (x : List ℕ). text ++ x) (sym (history-append names r.1 t.1))))
    in
    (t.0, r.1 ++ t.1, join w r.0 t.0 r.1 t.1 r.2 t.2, t.3, all)

told_as : (cs ds : List ℕ) (names : List (List ℕ)) (old new : MachineState) (text later : List ℕ) → cs ≡ ds → AreTold (Turns cs) names old
    text new later → AreTold (Turns ds) names old text new later
told_as cs ds names old new text later same told = subst (λ (es : List ℕ). AreTold (Turns es) names old text new later) same told

runs_both : (cs ds : List ℕ) (w y z : World) (xs ys : List Happening) → RunsWith w cs xs y → RunsWith y ds ys z → RunsWith w (cs ++ ds) (xs ++ ys) z
runs_both [] ds w y z xs ys first second =
    let P : World → Type 0 = λ v. RunsWith v ds ys z in
    let Q : List Happening → Type 0 = λ log. RunsWith w ds log z in
    subst Q (ap (λ (x : List Happening). x ++ ys) (sym first.1)) (subst P first.0 second)
runs_both (c ∷ cs) ds w y z xs ys first second = (
  first.0,
  first.1,
  first.2,
  first.3 ++ ys,
  first.4,
  first.5,
  runs_both cs ds first.1 y z first.3 ys first.6 second,
  ap (λ (x : List Happening). x ++ ys) first.7 ∙ append_assoc first.2 first.3 ys,
)

-- one more turn
one_turn : (c : ℕ) (answer : Turn) (w z : World) (log : List Happening) → OneTurn c answer w log z → RunsWith w (c ∷ []) log z
one_turn c answer w z log turn = (answer, z, log, [], turn.0, turn.1, (refl, refl), sym (append-nil log))

pub turn_more : (cs : List ℕ) (c : ℕ) (answer : Turn) (names : List (List ℕ)) (old mid new : MachineState) (text between later : List ℕ)
    → AreTold (Turns cs) names old text mid between → AreTold (OneTurn c answer) names mid between new later → AreTold
    (Turns (cs ++ c ∷ [])) names old text new later
turn_more cs c answer names old mid new text between later before after =
    told_join (Turns cs) (OneTurn c answer) (Turns (cs ++ c ∷ [])) names old mid new text between later
    (λ w y z xs ys first second. runs_both cs (c ∷ []) w y z xs ys first (one_turn c answer y z ys second)) before after

pub turns_more : (cs ds : List ℕ) (names : List (List ℕ)) (old mid new : MachineState) (text between later : List ℕ)
    → AreTold (Turns cs) names old text mid between → AreTold (Turns ds) names mid between new later → AreTold (Turns (cs ++ ds)) names old text new later
turns_more cs ds names old mid new text between later before after =
    told_join (Turns cs) (Turns ds) (Turns (cs ++ ds)) names old mid new text between later
    (λ w y z xs ys first second. runs_both cs ds w y z xs ys first second) before after

-- ---- turns of one CPU
pub one_more : (n c : ℕ) (answer : Turn) (names : List (List ℕ)) (old mid new : MachineState) (text between later : List ℕ)
    → AreTold (Turns (replicate n c)) names old text mid between → AreTold (OneTurn c answer) names mid between new later → AreTold
    (Turns (replicate (n + 1) c)) names old text new later
one_more n c answer names old mid new text between later before after =
    told_as (replicate n c ++ c ∷ []) (replicate (n + 1) c) names old new text later (sym (replicate_next n c))
    (turn_more (replicate n c) c answer names old mid new text between later before after)

nothing_more : (n : ℕ) (w : World) (c : ℕ) → IsFree w.jobs c → NoneWaits w.jobs c → RunsWith w (replicate n c) [] w
nothing_more zero w c free none = (refl, refl)
nothing_more (suc n) w c free none = (Idle, w, [], [], inr (inr (free, none, refl, refl)), inr (inr (free, none, refl)), nothing_more n w c free none, refl)

-- after an idle turn of it the others change nothing, and nothing happens in them
pub rest_idle : (k n c : ℕ) (answer : Turn) (names : List (List ℕ)) (old mid new : MachineState) (text between later : List ℕ) → k ≤ n → answer ≡ Idle
    → AreTold (Turns (replicate k c)) names old text mid between → AreTold (OneTurn c answer) names mid between new later → AreTold
    (Turns (replicate n c)) names old text new later
rest_idle k n c answer names old mid new text between later within idle before after =
    let all : replicate k c ++ replicate (n - k) c ≡ replicate n c = replicate-append-replicate k (n - k) c ∙ ap (λ (i : ℕ). replicate i c) (omega arith) in
    told_as (replicate k c ++ replicate (n - k) c) (replicate n c) names old new text later all
    (told_join (Turns (replicate k c)) (OneTurn c answer) (Turns (replicate k c ++ replicate (n - k) c)) names old mid new text between later join before after)
  where
    still : (y z : World) (ys : List Happening) → OneTurn c answer y ys z → IsFree y.jobs c × NoneWaits y.jobs c × (z ≡ y) × (ys ≡ [])
    still y z ys turn =
        let none = idle_turn y c answer z turn.0 idle in
        (none.0, none.1, stays turn.0, silent turn.1)
      where
        stays : TakesTurn y c answer z → z ≡ y
        stays (inl a) = absurd ((idle_turn y c answer z turn.0 idle).0 a.0 a.1 a.2 a.3 a.4)
        stays (inr (inl (free, a))) = absurd ((idle_turn y c answer z turn.0 idle).1 a.0 a.1 a.2 a.4)
        stays (inr (inr a)) = a.3

        silent : Happens y c answer ys → ys ≡ []
        silent (inl a) = absurd ((idle_turn y c answer z turn.0 idle).0 a.0 a.1 a.2 a.3 a.4)
        silent (inr (inl (free, a))) = absurd ((idle_turn y c answer z turn.0 idle).1 a.0 a.1 a.2 a.4)
        silent (inr (inr a)) = a.2

    join : (w y z : World) (xs ys : List Happening) → RunsWith w (replicate k c) xs y → OneTurn c answer y ys z → RunsWith w
        (replicate k c ++ replicate (n - k) c) (xs ++ ys) z
    join w y z xs ys first second =
        let none = still y z ys second in
        let P : World → Type 0 = λ v. RunsWith w (replicate k c ++ replicate (n - k) c) (xs ++ []) v in
        let Q : List Happening → Type 0 = λ log. RunsWith w (replicate k c ++ replicate (n - k) c) (xs ++ log) z in
        subst Q (sym none.3) (subst P (sym none.2) (runs_both (replicate k c) (replicate (n - k) c) w y y xs [] first (nothing_more (n - k) y c none.0 none.1)))

-- ---- run lengths
unrolled-append : (xs ys : List (ℕ × ℕ)) → unrolled (xs ++ ys) ≡ unrolled xs ++ unrolled ys
unrolled-append [] ys = refl
unrolled-append (x ∷ xs) ys = ap (λ (cs : List ℕ). replicate x.1 x.0 ++ cs) (unrolled-append xs ys) ∙ sym
    (append_assoc (replicate x.1 x.0) (unrolled xs) (unrolled ys))

pub next_run : (runs : List (ℕ × ℕ)) (i : ℕ) (d : ℕ × ℕ) (names : List (List ℕ)) (old mid new : MachineState) (text between later : List ℕ) → i < length runs
    → AreTold (Turns (unrolled (take i runs))) names old text mid between → AreTold
    (Turns (replicate (get_or runs i d).1 (get_or runs i d).0)) names mid between new later
    → AreTold (Turns (unrolled (take (i + 1) runs))) names old text new later
next_run runs i d names old mid new text between later inside before after =
    let run = get_or runs i d in
    let last : unrolled (run ∷ []) ≡ replicate run.1 run.0 = append-nil (replicate run.1 run.0) in
    let all : unrolled (take (i + 1) runs) ≡ unrolled (take i runs) ++ replicate run.1 run.0 =
    ap unrolled (take_more runs i d inside) ∙ (unrolled-append (take i runs) (run ∷ []) ∙ ap (λ (cs : List ℕ). unrolled (take i runs) ++ cs) last)
    in
    told_as (unrolled (take i runs) ++ replicate run.1 run.0) (unrolled (take (i + 1) runs)) names old new text later (sym all)
    (turns_more (unrolled (take i runs)) (replicate run.1 run.0) names old mid new text between later before after)

pub all_runs : (runs : List (ℕ × ℕ)) (i : ℕ) (names : List (List ℕ)) (old new : MachineState) (text later : List ℕ) → length runs ≤ i
    → AreTold (Turns (unrolled (take i runs))) names old text new later → AreTold (Turns (unrolled runs)) names old text new later
all_runs runs i names old new text later past told = told_as (unrolled (take i runs)) (unrolled runs) names old new text later
    (ap unrolled (take_all i runs past)) told

-- ---- rounds
pub one_cpu_more : (c : ℕ) (answer : Turn) (names : List (List ℕ)) (old mid new : MachineState) (text between later : List ℕ)
    → AreTold (Turns (below c)) names old text mid between → AreTold (OneTurn c answer) names mid between new later → AreTold
    (Turns (below (c + 1))) names old text new later
one_cpu_more c answer names old mid new text between later before after =
    let more : suc c ≡ c + 1 = omega arith in
    told_as (below (suc c)) (below (c + 1)) names old new text later (ap below more)
    (turn_more (below c) c answer names old mid new text between later before after)

pub whole_round : (n : ℕ) (names : List (List ℕ)) (old new : MachineState) (text later : List ℕ) → ((c : ℕ) → has_cpu old.store c ≡ nat_lt c n)
    → AreTold (Turns (below n)) names old text new later → AreTold ARound names old text new later
whole_round n names old new text later same told w shows =
    let r = told w shows in
    (r.0, r.1, subst (λ (k : ℕ). RunsWith w (below k) r.1 r.0) (sym (cpus_shown old w n same shows)) r.2, r.3, r.4)

pub round_more : (names : List (List ℕ)) (old mid new : MachineState) (text between later : List ℕ)
    → AreTold SomeRounds names old text mid between → AreTold ARound names mid between new later → AreTold SomeRounds names old text new later
round_more names old mid new text between later before after =
    told_join SomeRounds ARound SomeRounds names old mid new text between later
    (λ w y z xs ys first second. (suc first.0, (y, xs, ys, first.1, second, refl))) before after

-- ---- the notes of a turn
module _ (names : List (List ℕ)) (c j pc : ℕ) where
  abbrev pub noted_lines : List Note → List ℕ
  noted_lines notes = history_lines names (map (happening c j pc) (map event_of notes))

  noted-append : (xs ys : List Note) → noted_lines (xs ++ ys) ≡ noted_lines xs ++ noted_lines ys
  noted-append [] ys = refl
  noted-append (x ∷ xs) ys =
      ap (λ (text : List ℕ). happening_line names (happening c j pc (event_of x)) ++ text) (noted-append xs ys)
      ∙ sym (append_assoc (happening_line names (happening c j pc (event_of x))) (noted_lines xs) (noted_lines ys))

  pub one_note_more : (start text later : List ℕ) (notes : List Note) (i : ℕ) (note : Note) → i < length notes → text ≡ start ++ noted_lines (take i notes)
      → later ≡ text ++ happening_line names (happening c j pc (event_of (get_or notes i note))) → later ≡ start ++ noted_lines (take (i + 1) notes)
  one_note_more start text later notes i note inside before after =
      let line = happening_line names (happening c j pc (event_of (get_or notes i note))) in
      let last : line ++ [] ≡ line = append-nil line in
      after ∙ (ap (λ (x : List ℕ). x ++ line) before
      ∙ (append_assoc start (noted_lines (take i notes)) line
      ∙ ap (λ (x : List ℕ). start ++ x)
      (ap (λ (x : List ℕ). noted_lines (take i notes) ++ x) (sym last)
      ∙ (sym (noted-append (take i notes) (get_or notes i note ∷ [])) ∙ ap noted_lines (sym (take_more notes i note inside))))))

  abbrev pub events_lines : List Event → List ℕ
  events_lines events = history_lines names (map (happening c j pc) events)

  events-append : (xs ys : List Event) → events_lines (xs ++ ys) ≡ events_lines xs ++ events_lines ys
  events-append [] ys = refl
  events-append (x ∷ xs) ys =
      ap (λ (text : List ℕ). happening_line names (happening c j pc x) ++ text) (events-append xs ys)
      ∙ sym (append_assoc (happening_line names (happening c j pc x)) (events_lines xs) (events_lines ys))

  pub turn_lines : (notes : List Note) (answer : Turn) (start mid later : List ℕ) → mid ≡ start ++ noted_lines notes
      → later ≡ mid ++ history_lines names (map (happening c j pc) (end_events answer)) → later ≡ start ++ history_lines names
      (noted c (Some (j, pc)) (map event_of notes) answer)
  turn_lines notes answer start mid later before after =
      after ∙ (ap (λ (x : List ℕ). x ++ events_lines (end_events answer)) before
      ∙ (append_assoc start (noted_lines notes) (events_lines (end_events answer))
      ∙ ap (λ (x : List ℕ). start ++ x) (sym (events-append (map event_of notes) (end_events answer)))))

  pub end_line : (answer : Turn) (job : ℕ) (end : Outcome) (text later : List ℕ) → answer ≡ Ended job end → later ≡ text ++ happening_line
      names (happening c j pc event.End)
      → later ≡ text ++ history_lines names (map (happening c j pc) (end_events answer))
  end_line answer job end text later is line =
      let P : Turn → Type 0 = λ a. later ≡ text ++ history_lines names (map (happening c j pc) (end_events a)) in
      let last = happening_line names (happening c j pc event.End) in
      subst P (sym is) (line ∙ ap (λ (x : List ℕ). text ++ x) (sym (append-nil last)))

-- ---- a turn
pub turn_told : (c : ℕ) (at : Option (ℕ × ℕ)) (events : List Event) (answer : Turn) (names : List (List ℕ)) (old new : MachineState)
    (text later : List ℕ) → IsWatched old c at events
    → ((w : World) → Shows old w → (z : World) × TakesTurn w c answer z × Shows new z) → later ≡ text ++ history_lines names (noted c at events answer)
    → AreTold (OneTurn c answer) names old text new later
turn_told c at events answer names old new text later watched turn is w shows =
    let r = turn w shows in
    (r.0, noted c at events answer, (r.1, watched w shows answer), r.2, is)

-- ---- CPUs without work
abbrev pub IdleSo : MachineState → ℕ → Bool → MachineState → Type 0
IdleSo old c worked new = worked ≡ false → (new ≡ old) × ((d : ℕ) → d < c → ((w : World) × Shows old w) → IsFree old.jobs d × NoneWaits old.jobs d)

pub none_yet : (old : MachineState) → IdleSo old 0 false old
none_yet old e = (refl, λ d less shown. absurd (omega arith))

pub idle_more : (c : ℕ) (answer : Turn) (was now : Bool) (names : List (List ℕ)) (old mid new : MachineState) (text later : List ℕ) → IdleSo old c was mid
    → (now ≡ false → (was ≡ false) × (answer ≡ Idle)) → AreTold (OneTurn c answer) names mid text new later → (answer ≡ Idle → new ≡ mid) →
    IdleSo old (c + 1) now new
idle_more c answer was now names old mid new text later before choice turn stays e =
    let both = choice e in
    let so = before both.0 in (
      stays both.1 ∙ so.0,
      λ d less shown. elim (cases_lt d c) [
        | inl below ↦ so.1 d below shown
        | inr past ↦ here both.1 so.0 d (omega arith) shown
      ],
    )
  where
    here : answer ≡ Idle → mid ≡ old → (d : ℕ) → c ≡ d → ((w : World) × Shows old w) → IsFree old.jobs d × NoneWaits old.jobs d
    here idle same d at (w, shows) =
        let r = turn w (subst (λ (m : MachineState). Shows m w) (sym same) shows) in
        let none = idle_turn w c answer r.0 r.2.0 idle in
        let P : List Task → Type 0 = λ jobs. IsFree jobs c × NoneWaits jobs c in
        subst (λ (n : ℕ). IsFree old.jobs n × NoneWaits old.jobs n) at (subst P shows.jobs none)

pub round_ends : (n : ℕ) (worked : Bool) (old new : MachineState) → CanStand old → ((c : ℕ) → has_cpu old.store c ≡ nat_lt c n) → IdleSo old n worked new
    → worked ≡ false → ((w : World) × Shows old w) → HaveEnded new.jobs
round_ends n worked old new stands cpus so e shown =
    let idle = so e in
    let inside : (j : ℕ) (task : Task) → slice_get old.jobs j ≡ Some task → task.cpu < n =
    λ j task listed. ltb-true task.cpu n (sym (cpus task.cpu) ∙ stands.served j task listed)
    in
    subst (λ (m : MachineState). HaveEnded m.jobs) (sym idle.0) (all_ended old.jobs n inside (λ c less. idle.1 c less shown))
