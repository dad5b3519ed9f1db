-- Commands keep it so that no two keys lead to one value.
use Rattle.std.proofs.Common.{◌≡◌, ℕ, ◌+◌, List, [], ◌∷◌, Some, None, inl, inr, refl, sym, subst, replicate}
use Rattle.std.specs.Prelude.{Ok, Err}
use Rattle.bpf_lines.specs.Lines.{fields_of}
use Rattle.bpf_machine.specs.Schedule.{World, RunsSchedule, unrolled}
use Rattle.bpf_debug.specs.declared.recall.Kind.TheVariants as kind
use Rattle.bpf_debug.specs.Command.{Order, Break, Delete, Step, StepTimes, Steps, Go, Registers, Where, Memory, Map, Keys, Schedule, GoTo}
use Rattle.bpf_debug.specs.Command.{Maps, Variables, Number, Jobs, Mark, Back, Help, Held, Nearby, Last, Show, Watch, WatchVariable}
use Rattle.bpf_debug.specs.Command.{Unwatch}
use Rattle.bpf_debug.specs.Course.{turns_before}
use Rattle.bpf_debug.specs.Session.{Scene, CarriesOut, Obeys, behind}
use Rattle.bpf_debug.specs.Script.{Answer, AnswersLine}
use Rattle.bpf_debug.proofs.GoLaws.{goes_runs}
use Rattle.bpf_debug.proofs.ManyTurns.{all_runs, made_runs}
use Rattle.bpf_debug.proofs.OwnValues.{IsOwn, turns_keep}
use Rattle.bpf_debug.proofs.RecallLaws.{recalls_run}

pub record AreOwn (x : Scene) : Type 0 where
  pub world : IsOwn x.world.store
  pub first : IsOwn x.first.store

went_on : (x y : Scene) (turns : List ℕ) (w : World) → AreOwn x → RunsSchedule x.world turns w → y ≡ behind x turns w → AreOwn y
went_on x y turns w are runs is =
    let now : AreOwn (behind x turns w) = record { world = turns_keep x.world turns w are.world runs; first = are.first } in
    subst AreOwn (sym is) now

made_again : (x y : Scene) (turns : List ℕ) (w : World) → AreOwn x → RunsSchedule x.first turns w → y ≡ record x { world = w } → AreOwn y
made_again x y turns w are runs is =
    let now : AreOwn (record x { world = w }) = record { world = turns_keep x.first turns w are.first runs; first = are.first } in
    subst AreOwn (sym is) now

stays : (x y : Scene) → AreOwn x → y ≡ x → AreOwn y
stays x y are is = subst AreOwn (sym is) are

order_keeps : (x y : Scene) (o : Order) (text : List ℕ) → AreOwn x → CarriesOut x o text y → AreOwn y
order_keeps x y (Break (Some c) (Some p)) text are f = subst AreOwn (sym f.1.2) (record { world = are.world; first = are.first })
order_keeps x y (Delete (Some c) (Some p)) text are f = subst AreOwn (sym f.1.2) (record { world = are.world; first = are.first })
order_keeps x y (Watch name word) text are f = subst AreOwn (sym f.6) (record { world = are.world; first = are.first })
order_keeps x y (WatchVariable name) text are f = subst AreOwn (sym f.3) (record { world = are.world; first = are.first })
order_keeps x y Unwatch text are f = subst AreOwn (sym f.1) (record { world = are.world; first = are.first })
order_keeps x y (Step (Some c)) text are f = went_on x y (c ∷ []) f.1.1 are (f.1.0, f.1.1, f.1.3, refl) f.1.6
order_keeps x y (StepTimes (Some c) n) text are f = went_on x y (replicate n c) f.1.0 are (made_runs x.world c n f.1.1 f.1.0 f.1.3) f.1.6
order_keeps x y (Steps runs) text are f = went_on x y (unrolled runs) f.1.0 are (all_runs x.world runs f.1.1 f.1.0 f.1.3) f.1.6
order_keeps x y Go text are f = went_on x y f.1 f.0 are (goes_runs x.breaks x.watch 0 x.world.store.shape.cpus x.world 0 [] f.1 text f.0 f.2) f.3
order_keeps x y (GoTo (Some c) (Some p)) text are f =
    let went = f.1.1 in
    went_on x y went.1 went.0 are (goes_runs (record { cpu = c; pc = p } ∷ []) x.watch c (c + 1) x.world c [] went.1 text went.0 went.2) went.3
order_keeps x y (Show (Some c)) text are (has, inl f) = stays x y are f.1
order_keeps x y (Show (Some c)) text are (has, inr f) = made_again x y x.turns f.1 are (recalls_run kind.Works c x.first None x.turns f.0 f.1 f.2) f.4
order_keeps x y (Last (Some c)) text are f = made_again x y x.turns f.1.1 are (recalls_run kind.Ends c x.first None x.turns f.1.0 f.1.1 f.1.2) f.1.4
order_keeps x y (Back n) text are f =
    let back = turns_before x.turns n in
    subst AreOwn (sym f.1.3) (record { world = turns_keep x.first back f.1.0 are.first f.1.1; first = are.first })
order_keeps x y (GoTo (Some c) None) text are f = absurd f
order_keeps x y (GoTo None p) text are f = absurd f
order_keeps x y (Break None p) text are f = absurd f
order_keeps x y (Break (Some c) None) text are f = absurd f
order_keeps x y (Delete None p) text are f = absurd f
order_keeps x y (Delete (Some c) None) text are f = absurd f
order_keeps x y (Step None) text are f = absurd f
order_keeps x y (StepTimes None n) text are f = absurd f
order_keeps x y (Show None) text are f = absurd f
order_keeps x y (Last None) text are f = absurd f
order_keeps x y (Registers c) text are f = stays x y are f.1
order_keeps x y (Where c) text are f = stays x y are f.1
order_keeps x y (Memory c at n) text are f = stays x y are f.1
order_keeps x y (Map name) text are f = stays x y are f.1
order_keeps x y (Keys name) text are f = stays x y are f.1
order_keeps x y Schedule text are f = stays x y are f.1
order_keeps x y Maps text are f = stays x y are f.1
order_keeps x y Variables text are f = stays x y are f.1
order_keeps x y (Number name) text are f = stays x y are f.1
order_keeps x y Jobs text are f = stays x y are f.1
order_keeps x y (Mark n) text are f = stays x y are f.1
order_keeps x y Help text are f = stays x y are f.1
order_keeps x y (Held c) text are f = stays x y are f.1
order_keeps x y (Nearby c) text are f = stays x y are f.1

pub answer_keeps : (x y : Scene) (line : List ℕ) (answer : Answer) → AreOwn x → AnswersLine x line answer y → AreOwn y
answer_keeps x y line (Ok text) are a = line_keeps (fields_of line) a
  where
    line_keeps : (fields : List (List ℕ)) → Obeys x fields text y → AreOwn y
    line_keeps [] o = stays x y are o.1
    line_keeps (f ∷ fs) o = order_keeps x y o.0 text are o.2
answer_keeps x y line (Err e) are a = stays x y are a.1
