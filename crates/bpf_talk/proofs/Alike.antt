-- A conversation with states that stand for others is one with those.
use Rattle.std.proofs.Common.{Bool, ℕ, List, [], ◌∷◌, refl, sym, subst}
use Rattle.std.specs.Prelude.{All}
use Rattle.std.proofs.lemmas.List.Elements.{All-cons, All-head, All-nil, All-tail}
use Rattle.bpf_talk.specs.Terminal.{Call, before_reads}
use Rattle.bpf_talk.specs.Talking.{Told, Answering, AnswersLines, IsCaughtUp, Talks}
use Rattle.bpf_talk.specs.declared.talking.Talked.{Talked}
use Rattle.bpf_talk.specs.declared.talking.Talked.TheVariants as talked

each : {X : Type 0} (P Q : X → Type 0) → ((x : X) → P x → Q x) → (xs : List X) → All P xs → All Q xs
each P Q f [] all = All-nil Q
each P Q f (x ∷ xs) all = All-cons Q x xs (f x (All-head P x xs all)) (each P Q f xs (All-tail P x xs all))

module _ {S T : Type 0} (answers : Answering S) (others : Answering T) (Shows : S → T → Type 0)
    (follows : (s t : S) (line text : List ℕ) (refused : Bool) (x : T) → answers s t line text refused → Shows s x → (y : T) × others x y
    line text refused × Shows t y) where
  lines_alike : (s t : S) (lines : List (List ℕ)) (tolds : List Told) (x : T) → AnswersLines answers s lines tolds t → Shows s x → (y : T) ×
      AnswersLines others x lines tolds y × Shows t y
  lines_alike s t [] [] x same shown = (x, refl, subst (λ (u : S). Shows u x) (sym same) shown)
  lines_alike s t (line ∷ lines) ((text, refused) ∷ tolds) x runs shown =
      let one = follows s runs.0 line text refused x runs.1 shown in
      let rest = lines_alike runs.0 t lines tolds one.0 runs.2 one.2 in
      (rest.0, (one.0, one.1, rest.1), rest.2)
  lines_alike s t [] (told ∷ tolds) x runs shown = absurd runs
  lines_alike s t (line ∷ lines) [] x runs shown = absurd runs

  caught_alike : (echo : Bool) (s : S) (x : T) → Shows s x → (calls : List Call) → IsCaughtUp answers echo s calls → IsCaughtUp others echo x calls
  caught_alike echo s x shown calls (lines, begun, tolds, t, cut, told) =
      let runs = lines_alike s t lines tolds x told.0.0 shown in
      (lines, begun, tolds, runs.0, cut, ((runs.1, told.0.1), told.1, told.2))

  -- what is over leaves what the last state stands for
  abbrev pub Left : Talked → S → T → Type 0
  Left (talked.Over refused) s x = Shows s x
  Left (talked.Refused why) s x = Unit {0}
  Left talked.CutOff s x = Unit {0}

  pub talks_alike : (echo : Bool) (s t : S) (x : T) (calls : List Call) (unread unwritten : Bool) (told : Talked) → Shows s x → Talks
      answers echo s t calls unread unwritten told
      → (y : T) × Talks others echo x y calls unread unwritten told × Left told t y
  talks_alike echo s t x calls unread unwritten (talked.Over refused) shown (turns, ((tolds, ended, told, denies), quiet, works)) =
      let runs = lines_alike s t _ tolds x told.0.0 shown in (
        runs.0,
        (
          each (IsCaughtUp answers echo s) (IsCaughtUp others echo x) (caught_alike echo s x shown) (before_reads calls) turns,
          ((tolds, ended, ((runs.1, told.0.1), told.1, told.2), denies), quiet, works),
        ),
        runs.2,
      )
  talks_alike echo s t x calls unread unwritten (talked.Refused why) shown
      (turns, ((y, lines, left, tolds, cut, answered, wrote, flushed, early), quiet, works)) =
      let runs = lines_alike s y lines tolds x answered.0 shown in (
        runs.0,
        (
          each (IsCaughtUp answers echo s) (IsCaughtUp others echo x) (caught_alike echo s x shown) (before_reads calls) turns,
          ((runs.0, lines, left, tolds, cut, (runs.1, answered.1), wrote, flushed, early), quiet, works),
        ),
        tt,
      )
  talks_alike echo s t x calls unread unwritten talked.CutOff shown (turns, ((why, y, lines, left, tolds, k, cut, answered, wrote), works)) =
      let runs = lines_alike s y lines tolds x answered.0 shown in (
        runs.0,
        (
          each (IsCaughtUp answers echo s) (IsCaughtUp others echo x) (caught_alike echo s x shown) (before_reads calls) turns,
          ((why, runs.0, lines, left, tolds, k, cut, (runs.1, answered.1), wrote), works),
        ),
        tt,
      )
