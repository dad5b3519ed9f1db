-- How far a script has been followed, line by line.
use Rattle.std.proofs.Common.{◌≡◌, ℕ, List, [], ◌∷◌, ◌++◌, refl, sym, subst, append_assoc, append-nil, map}
use Rattle.std.specs.Prelude.{String, Result, Ok, Err}
use Rattle.std.specs.declared.alloc.Global.{Global}
use Rattle.std.proofs.lemmas.List.{map-append}
use Rattle.bpf_lines.specs.Lines.{fields_of}
use Rattle.bpf_debug.specs.declared.error.DebugError.{DebugError}
use Rattle.bpf_debug.specs.Session.{SessionState, Scene, IsShown, LeavesLine, RefusesLine}
use Rattle.bpf_debug.specs.Script.{Answer, AnswersLine, RunsScript, answer_of}

-- ---- one line
abbrev pub OneLine : SessionState → SessionState → List ℕ → Answer → Type 0
OneLine old new line answer = (x : Scene) → IsShown old x → (y : Scene) × AnswersLine x line answer y × IsShown new y

pub line_done : (old new : SessionState) (line text : List ℕ) → LeavesLine old (fields_of line) text new → OneLine old new line (Ok text)
line_done old new line text leaves x shown = let l = leaves x shown in (l.0, l.1, l.3)

pub line_refused : (old new : SessionState) (line : List ℕ) (e : DebugError) → RefusesLine old (fields_of line) e → new ≡ old → OneLine old new line (Err e)
line_refused old new line e refuses same x shown = (x, (refuses x shown, refl), subst (λ (s : SessionState). IsShown s x) (sym same) shown)

-- ---- some lines
pub record Far (lines : List (List ℕ)) (old new : SessionState) (answers : List Answer) (rest : List (List ℕ)) : Type 0 where
  pub here : (x : Scene) → IsShown old x → Scene
  pub shows : (x : Scene) (shown : IsShown old x) → IsShown new (here x shown)
  pub onward : (x : Scene) (shown : IsShown old x) (more : List Answer) (y : Scene) → RunsScript (here x shown) rest more y → RunsScript x
      lines (answers ++ more) y

pub far_start : (lines : List (List ℕ)) (s : SessionState) → Far lines s s [] lines
far_start lines s = record { here = λ x shown. x; shows = λ x shown. shown; onward = λ x shown more y runs. runs }

pub far_next : (lines : List (List ℕ)) (old mid new : SessionState) (answers : List Answer) (line : List ℕ) (rest : List (List ℕ)) (answer : Answer)
    → Far lines old mid answers (line ∷ rest) → OneLine mid new line answer → Far lines old new (answers ++ answer ∷ []) rest
far_next lines old mid new answers line rest answer far one = record {
  here = λ x shown. (one (far.here x shown) (far.shows x shown)).0;
  shows = λ x shown. (one (far.here x shown) (far.shows x shown)).2;
  onward = λ x shown more y runs.
      let o = one (far.here x shown) (far.shows x shown) in
      subst (λ (all : List Answer). RunsScript x lines all y) (sym (append_assoc answers (answer ∷ []) more))
      (far.onward x shown (answer ∷ more) y (o.0, o.1, runs));
}

pub far_end : (lines : List (List ℕ)) (old new : SessionState) (answers : List Answer) → Far lines old new answers []
    → (x : Scene) → IsShown old x → (y : Scene) × RunsScript x lines answers y × IsShown new y
far_end lines old new answers far x shown = (
  far.here x shown,
  subst (λ (all : List Answer). RunsScript x lines all (far.here x shown)) (append-nil answers) (far.onward x shown [] (far.here x shown) refl),
  far.shows x shown,
)

-- one answer more
pub more_answers : (items : List (Result (String Global) DebugError)) (one : Result (String Global) DebugError) → map answer_of
    (items ++ one ∷ []) ≡ map answer_of items ++ answer_of one ∷ []
more_answers items one = map-append answer_of items (one ∷ [])
