-- Where CPUs are, from what the debugger answers.
use Rattle.std.proofs.Common.{◌≡◌, ◌∙◌, ℕ, zero, suc, ◌+◌, ◌<◌, ◌≤◌, true, false, List, [], ◌∷◌, Option, Some, Ok, Err, inl, inr, refl, sym, ap, subst, arith}
use Rattle.std.specs.Prelude.{codes}
use Rattle.std.specs.Fmt.{decimal, digits}
use Rattle.std.proofs.lemmas.Bool.{cases_lt}
use Rattle.bpf_lines.specs.Lines.{fields_of}
use Rattle.bpf_lines.specs.Words.{written_number}
use Rattle.bpf_shared.specs.Shape.{Shape}
use Rattle.bpf_pairs.proofs.Filling.{filled_shape}
use Rattle.bpf_file.specs.File.{File, shape_of}
use Rattle.bpf_file.specs.Reading.{IsRunFile}
use Rattle.bpf_debug.specs.Answer.{IsWhere}
use Rattle.bpf_debug.specs.Command as plain
use Rattle.bpf_debug.specs.Command.{Order, Where}
use Rattle.bpf_debug.specs.Session.{Scene, SessionState, IsShown, CarriesOut, Obeys}
use Rattle.bpf_buffer_debug.specs.Command as buffer_command
use Rattle.bpf_buffer_debug.specs.Command.{Plain}
use Rattle.bpf_buffer_debug.specs.Script as buffer_script
use Rattle.bpf_buffer_debug.specs.Session as buffers
use Rattle.bpf_replies.specs.Script.{scene_of}
use Rattle.bpf_replies.specs.BufferScript.{buffer_scene_of}
use Rattle.bpf_run.specs.Answering.{AnswersText, AnswersBufferText, SessionAnswers, BufferSessionAnswers}
use Rattle.bpf_run.specs.Hung.{AreWhere, AreBufferPlaces, ArePlaces, LeadsBy, LeadsWithBuffers, steps_line}
use Rattle.bpf_run.specs.Private.Asking.{AsksWhere, MakesMoves, Responds, TellsPlaces, where_line}
use Rattle.bpf_run.specs.declared.answering.Answering.{Answering}
use Rattle.bpf_run.specs.declared.buffer_answering.BufferAnswering.{BufferAnswering}

-- ---- the line that asks where a CPU is
pub record IsSpelled (c : ℕ) : Type 0 where
  pub fields : fields_of (where_line c) ≡ codes "where" ∷ decimal c ∷ []
  pub said : plain.order_of (codes "where" ∷ decimal c ∷ []) ≡ Some (Where (Some c))
  pub buffered : buffer_command.order_of (codes "where" ∷ decimal c ∷ []) ≡ Some (Plain (Where (Some c)))

one_more : (n : ℕ) → IsSpelled n → ((c : ℕ) → c < n → IsSpelled c) → (c : ℕ) → c < n + 1 → IsSpelled c
one_more n last before c less = elim (cases_lt c n) [
  | inl below ↦ before c below
  | inr past ↦ (let same : n ≡ c = omega arith in subst IsSpelled same last)
]

few : (c : ℕ) → c < 8 → IsSpelled c
unfolding digits written_number
few = one_more 7 (record { fields = refl; said = refl; buffered = refl }) (one_more 6 (record { fields = refl; said = refl; buffered = refl })
    (one_more 5 (record { fields = refl; said = refl; buffered = refl }) (one_more 4 (record { fields = refl; said = refl; buffered = refl })
    (one_more 3 (record { fields = refl; said = refl; buffered = refl }) (one_more 2 (record { fields = refl; said = refl; buffered = refl })
    (one_more 1 (record { fields = refl; said = refl; buffered = refl }) (one_more 0 (record { fields = refl; said = refl; buffered = refl })
    (λ c less. absurd (omega arith)))))))))

spelled : (c : ℕ) → c < 16 → IsSpelled c
unfolding digits written_number
spelled = one_more 15 (record { fields = refl; said = refl; buffered = refl }) (one_more 14 (record { fields = refl; said = refl; buffered = refl })
    (one_more 13 (record { fields = refl; said = refl; buffered = refl }) (one_more 12 (record { fields = refl; said = refl; buffered = refl })
    (one_more 11 (record { fields = refl; said = refl; buffered = refl }) (one_more 10 (record { fields = refl; said = refl; buffered = refl })
    (one_more 9 (record { fields = refl; said = refl; buffered = refl }) (one_more 8 (record { fields = refl; said = refl; buffered = refl })
    few)))))))

-- ---- without store buffers
abbrev pub Answers : Responds Answering
Answers old new line text refused = SessionAnswers old.session new.session line text refused

obeyed : (x y : Scene) (line text : List ℕ) → AnswersText x y line text false → Obeys x (fields_of line) text y
obeyed x y line text (Ok told, does, is, kept) = subst (λ (t : List ℕ). Obeys x (fields_of line) t y) (sym is) does
obeyed x y line text (Err e, does, is, kept) = let both : false ≡ true = kept in cc

where_told : (x y : Scene) (c : ℕ) (text : List ℕ) → c < 16 → Obeys x (fields_of (where_line c)) text y → IsWhere x.world.jobs c text × (y ≡ x)
where_told x y c text small does =
    let one = spelled c small in
    let d : Obeys x (codes "where" ∷ decimal c ∷ []) text y = subst (λ (fs : List (List ℕ)). Obeys x fs text y) one.fields does in
    let both : Some d.0 ≡ Some (Where (Some c)) = sym d.1 ∙ one.said in
    let order : d.0 ≡ Where (Some c) = cc in
    let done : CarriesOut x (Where (Some c)) text y = subst (λ (o : Order). CarriesOut x o text y) order d.2 in
    (done.0.1, done.1)

all_told : (n : ℕ) (s t : Answering) (text : List ℕ) → n ≤ 16 → AsksWhere Answers n s text t → (x : Scene) → IsShown s.session x
    → AreWhere x.world.jobs n text × IsShown t.session x
all_told zero s t text small (none, same) x shown = (none, subst (λ (u : Answering). IsShown u.session x) (sym same) shown)
all_told (suc n) s t text small (m, before, line, asks, answers, is) x shown =
    let first = all_told n s m before (omega arith) asks x shown in
    let a = answers x first.1 in
    let one = where_told x a.0 n line (omega arith) (obeyed x a.0 (where_line n) line a.1) in
    ((before, line, first.0, one.0, is), subst (λ (y : Scene). IsShown t.session y) one.1 a.2)

moved : (s t : Answering) (schedule : List ℕ) → MakesMoves Answers s schedule t → (x : Scene) → IsShown s.session x
    → (y : Scene) × LeadsBy x schedule y × IsShown t.session y
moved s t [] same x shown = (x, refl, subst (λ (u : Answering). IsShown u.session x) (sym same) shown)
moved s t (b ∷ bs) (text, answers) x shown =
    let a = answers x shown in
    (a.0, (text, obeyed x a.0 (steps_line (b ∷ bs)) text a.1), a.2)

-- ---- how many CPUs there are
pub count_is : (f : File) (cpus : ℕ) (shape : Shape) → cpus ≡ shape.cpus → (scene_of f).world.store.shape ≡ shape → cpus ≡ f.cpus
count_is f cpus shape is same =
    is ∙ (ap (λ (h : Shape). h.cpus) (sym same) ∙ ap (λ (h : Shape). h.cpus) (filled_shape (shape_of f) f.pairs))

pub places_told : (s : Answering) (f : File) (file schedule text : List ℕ) (cpus : ℕ) → IsRunFile file (Ok f) → IsShown s.session (scene_of f)
    → cpus ≡ f.cpus → cpus ≤ 16 → TellsPlaces Answers cpus schedule s text → ArePlaces file schedule text
places_told s f file schedule text cpus said shown count small (m, t, moves, asks) =
    let made = moved s m schedule moves (scene_of f) shown in
    let told = all_told cpus m t text small asks made.0 made.2 in
    (f, made.0, said, made.1, subst (λ (n : ℕ). AreWhere made.0.world.jobs n text) count told.0)

-- ---- with store buffers
abbrev pub BufferAnswers : Responds BufferAnswering
BufferAnswers old new line text refused = BufferSessionAnswers old.session new.session line text refused

-- what a session shows after an answer that is no refusal
abbrev ObeysTo : buffers.SessionState → buffers.Scene → List ℕ → List ℕ → Type 0
ObeysTo t x line text = (y : buffers.Scene) × buffers.Obeys x (fields_of line) text y × buffers.IsShown t y

obeyed_to : (t : buffers.SessionState) (x : buffers.Scene) (y : Option buffers.Scene) (line text : List ℕ) → AnswersBufferText (Some x) y line text false
    → buffer_script.ShowsScene t y → ObeysTo t x line text
obeyed_to t x y line text (Ok told, (z, does, same), is, kept) shown = (
  z,
  subst (λ (u : List ℕ). buffers.Obeys x (fields_of line) u z) (sym is) does,
  subst (buffer_script.ShowsScene t) same shown,
)
obeyed_to t x y line text (Err e, does, is, kept) shown = let both : false ≡ true = kept in cc

where_buffer_told : (x y : buffers.Scene) (c : ℕ) (text : List ℕ) → c < 16 → buffers.Obeys x (fields_of (where_line c)) text y
    → IsWhere x.here.world.jobs c text × (y ≡ x)
where_buffer_told x y c text small does =
    let one = spelled c small in
    let d : buffers.Obeys x (codes "where" ∷ decimal c ∷ []) text y = subst (λ (fs : List (List ℕ)). buffers.Obeys x fs text y) one.fields does in
    let both : Some d.0 ≡ Some (Plain (Where (Some c))) = sym d.1 ∙ one.buffered in
    let order : d.0 ≡ Plain (Where (Some c)) = cc in
    let done : buffers.CarriesOut x (Plain (Where (Some c))) text y =
    subst (λ (o : buffer_command.Order). buffers.CarriesOut x o text y) order d.2 in
    (done.0.1, done.1)

all_buffer_told : (n : ℕ) (s t : BufferAnswering) (text : List ℕ) → n ≤ 16 → AsksWhere BufferAnswers n s text t → (x : buffers.Scene)
    → buffers.IsShown s.session x → AreWhere x.here.world.jobs n text × buffers.IsShown t.session x
all_buffer_told zero s t text small (none, same) x shown = (none, subst (λ (u : BufferAnswering). buffers.IsShown u.session x) (sym same) shown)
all_buffer_told (suc n) s t text small (m, before, line, asks, answers, is) x shown =
    let first = all_buffer_told n s m before (omega arith) asks x shown in
    let a = answers (Some x) first.1 in
    let o = obeyed_to t.session x a.0 (where_line n) line a.1 a.2 in
    let one = where_buffer_told x o.0 n line (omega arith) o.1 in
    ((before, line, first.0, one.0, is), subst (λ (y : buffers.Scene). buffers.IsShown t.session y) one.1 o.2)

moved_with_buffers : (s t : BufferAnswering) (schedule : List ℕ) → MakesMoves BufferAnswers s schedule t → (x : buffers.Scene)
    → buffers.IsShown s.session x → (y : buffers.Scene) × LeadsWithBuffers x schedule y × buffers.IsShown t.session y
moved_with_buffers s t [] same x shown = (x, refl, subst (λ (u : BufferAnswering). buffers.IsShown u.session x) (sym same) shown)
moved_with_buffers s t (b ∷ bs) (text, answers) x shown =
    let a = answers (Some x) shown in
    let o = obeyed_to t.session x a.0 (steps_line (b ∷ bs)) text a.1 a.2 in
    (o.0, (text, o.1), o.2)

pub buffer_places_told : (s : BufferAnswering) (f : File) (file schedule text : List ℕ) (cpus : ℕ) → IsRunFile file (Ok f)
    → buffers.IsShown s.session (buffer_scene_of f) → cpus ≡ f.cpus → cpus ≤ 16 → TellsPlaces BufferAnswers cpus schedule s text
    → AreBufferPlaces file schedule text
buffer_places_told s f file schedule text cpus said shown count small (m, t, moves, asks) =
    let made = moved_with_buffers s m schedule moves (buffer_scene_of f) shown in
    let told = all_buffer_told cpus m t text small asks made.0 made.2 in
    (f, made.0, said, made.1, subst (λ (n : ℕ). AreWhere made.0.here.world.jobs n text) count told.0)
