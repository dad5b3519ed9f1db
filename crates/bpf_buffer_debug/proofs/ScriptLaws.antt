-- Scripts, line after line.
use Rattle.std.proofs.Common.{◌≡◌, ◌∙◌, ℕ, true, List, [], ◌∷◌, ◌++◌, ◌⊎◌, inl, inr, refl, sym, ap, subst, Option, Some, None, append_assoc, append-nil, map}
use Rattle.std.proofs.lemmas.List.{map-append}
use Rattle.std.specs.Prelude.{Ok, Err, Result, String}
use Rattle.std.specs.declared.alloc.Global.{Global}
use Rattle.bpf_lines.specs.Lines.{fields_of}
use Rattle.bpf_debug.specs.declared.error.DebugError.{DebugError}
use Rattle.bpf_debug.specs.declared.error.DebugError.TheVariants as error
use Rattle.bpf_debug.specs.Script.{Answer, answer_of}
use Rattle.bpf_buffer_debug.specs.Session.{SessionState, Scene, IsShown, LeavesLine, RefusesLine, Stays}
use Rattle.bpf_buffer_debug.specs.Script.{AnswersLine, RunsScript, ShowsScene}

-- a line that is followed
pub line_followed : (s t : SessionState) (line text : List ℕ) → (s.lost ≡ true → (fields_of line ≡ []) × (text ≡ []) × (t ≡ s))
    → LeavesLine s (fields_of line) text t → (x : Option Scene)
    → ShowsScene s x → (y : Option Scene) × AnswersLine x line (Ok text) y × ShowsScene t y
line_followed s t line text lost leaves None shown =
    let l = lost shown in
    (None, (l.0, l.1, refl), ap (λ (r : SessionState). r.lost) l.2 ∙ shown)
line_followed s t line text lost leaves (Some x) shown = let l = leaves x shown in (Some l.0, (l.0, l.1, refl), l.3)

-- one that is refused
refused_from : (s t : SessionState) (line : List ℕ) (e : DebugError) (x : Scene) → IsShown s x → RefusesLine s (fields_of line) e
    → (t ≡ s) ⊎ ((e ≡ error.OutOfMemory) × (t.lost ≡ true))
    → (y : Option Scene) × AnswersLine (Some x) line (Err e) y × ShowsScene t y
refused_from s t line e x shown refuses (inl same) =
    (Some x, (refuses x shown, inl refl), subst (λ (r : SessionState). IsShown r x) (sym same) shown)
refused_from s t line e x shown refuses (inr lost) = (None, (refuses x shown, inr (lost.0, refl)), lost.1)

pub line_refused : (s t : SessionState) (line : List ℕ) (e : DebugError) → RefusesLine s (fields_of line) e → Stays s e t
    → (s.lost ≡ true → (line ≡ [] → ⊥) × (e ≡ error.OutOfMemory) × (t ≡ s)) → (x : Option Scene)
    → ShowsScene s x → (y : Option Scene) × AnswersLine x line (Err e) y × ShowsScene t y
line_refused s t line e refuses stays lost (Some x) shown = refused_from s t line e x shown refuses stays
line_refused s t line e refuses stays lost None shown =
    let l = lost shown in
    (None, (l.0, l.1, refl), ap (λ (r : SessionState). r.lost) l.2 ∙ shown)

-- ---- some lines
pub record Far (lines : List (List ℕ)) (old new : SessionState) (answers : List Answer) (rest : List (List ℕ)) : Type 0 where
  pub here : (x : Option Scene) → ShowsScene old x → Option Scene
  pub shows : (x : Option Scene) (shown : ShowsScene old x) → ShowsScene new (here x shown)
  pub onward : (x : Option Scene) (shown : ShowsScene old x) (more : List Answer) (y : Option Scene) → RunsScript (here x shown) rest more y →
      RunsScript x lines (answers ++ more) y

pub far_start : (lines : List (List ℕ)) (s : SessionState) → Far lines s s [] lines
far_start lines s = record { here = λ x shown. x; shows = λ x shown. shown; onward = λ x shown more y runs. runs }

-- one line more
abbrev pub OneLine : SessionState → SessionState → List ℕ → Answer → Type 0
OneLine old new line answer = (x : Option Scene) → ShowsScene old x → (y : Option Scene) × AnswersLine x line answer y × ShowsScene new y

pub far_next : (lines : List (List ℕ)) (old mid new : SessionState) (answers : List Answer) (line : List ℕ) (rest : List (List ℕ)) (answer : Answer)
    → Far lines old mid answers (line ∷ rest) → OneLine mid new line answer → Far lines old new (answers ++ answer ∷ []) rest
far_next lines old mid new answers line rest answer far one = record {
  here = λ x shown. (one (far.here x shown) (far.shows x shown)).0;
  shows = λ x shown. (one (far.here x shown) (far.shows x shown)).2;
  onward = λ x shown more y runs.
      let o = one (far.here x shown) (far.shows x shown) in
      subst (λ (all : List Answer). RunsScript x lines all y) (sym (append_assoc answers (answer ∷ []) more))
      (far.onward x shown (answer ∷ more) y (o.0, o.1, runs));
}

pub far_end : (lines : List (List ℕ)) (old new : SessionState) (answers : List Answer) → Far lines old new answers []
    → (x : Option Scene) → ShowsScene old x → (y : Option Scene) × RunsScript x lines answers y × ShowsScene new y
far_end lines old new answers far x shown = (
  far.here x shown,
  subst (λ (all : List Answer). RunsScript x lines all (far.here x shown)) (append-nil answers) (far.onward x shown [] (far.here x shown) refl),
  far.shows x shown,
)

-- one answer more
pub more_answers : (items : List (Result (String Global) DebugError)) (one : Result (String Global) DebugError) → map answer_of
    (items ++ one ∷ []) ≡ map answer_of items ++ answer_of one ∷ []
more_answers items one = map-append answer_of items (one ∷ [])
