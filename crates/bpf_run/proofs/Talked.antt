-- A conversation with a session is one with the scenes that it shows.
use Rattle.std.proofs.Common.{◌≡◌, ◌∙◌, ap, Bool, ℕ, List, Option, Some, None, length, sym, subst, refl}
use Rattle.std.specs.Prelude.{Result, String, Ok, Err, is_err}
use Rattle.std.specs.declared.alloc.Global.{Global}
use Rattle.clap.specs.Words.{Text}
use Rattle.bpf_cpu.specs.Task.{Task}
use Rattle.bpf_jobs.specs.Printed.{any_stopped}
use Rattle.bpf_command.specs.declared.command.Command.{Command}
use Rattle.bpf_debug.specs.Script.{answer_of}
use Rattle.bpf_debug.specs.Session.{Scene, SessionState, IsShown}
use Rattle.bpf_debug.specs.declared.error.DebugError.{DebugError}
use Rattle.bpf_talk.specs.Terminal.{Call}
use Rattle.bpf_talk.specs.Talking.{Talks}
use Rattle.bpf_talk.specs.declared.talking.Talked.{Talked}
use Rattle.bpf_talk.specs.declared.talking.Talked.TheVariants as talked
use Rattle.bpf_talk.proofs.Alike.{Left, talks_alike}
use Rattle.bpf_run.specs.Answering.{AnswersText, SessionAnswers}
use Rattle.bpf_file.specs.File.{File}
use Rattle.bpf_run.specs.Conversing.{DebugsFrom, Holds, asked_talk, talk_status}
use Rattle.bpf_run.specs.declared.conversing.Partner.{Partner}
use Rattle.bpf_run.specs.Objects.{IsShown as IsShownAs}
use Rattle.bpf_run.specs.Program.{Does, Performs, input_of}
use Rattle.bpf_run.specs.declared.answering.Answering.{Answering}
use Rattle.bpf_replies.specs.declared.reply.Status.{Status}

-- a line is refused as its answer says
pub refused_as : (answer : Result (String Global) DebugError) (refused : Bool) → refused ≡ is_err answer → refused ≡ is_err (answer_of answer)
refused_as (Ok text) refused same = same
refused_as (Err e) refused same = same

abbrev Asks : Answering → Answering → (line text : List ℕ) → (refused : Bool) → Type 0
Asks old new = SessionAnswers old.session new.session

abbrev Shows : Answering → Scene → Type 0
Shows s x = IsShown s.session x

follows : (s t : Answering) (line text : List ℕ) (refused : Bool) (x : Scene) → Asks s t line text refused → Shows s x → (y : Scene) ×
    AnswersText x y line text refused × Shows t y
follows s t line text refused x answers shown = answers x shown

status_alike : (told : Talked) (strict stopped : Bool) (t : Answering) (y : Scene) → stopped ≡ any_stopped (length t.session.machine.jobs)
    t.session.machine.jobs
    → Left Asks AnswersText Shows follows told t y → talk_status strict stopped told ≡ talk_status strict (any_stopped (length y.world.jobs) y.world.jobs) told
status_alike (talked.Over refused) strict stopped t y tells shown =
    let P : List Task → Type 0 = λ jobs. stopped ≡ any_stopped (length jobs) jobs in
    ap (λ (b : Bool). talk_status strict b (talked.Over refused)) (subst P (sym shown.world.jobs) tells)
status_alike (talked.Refused why) strict stopped t y tells shown = refl
status_alike talked.CutOff strict stopped t y tells shown = refl

pub converses : (passes : List Call → Type 0) (echo strict : Bool) (s t : Answering) (session : SessionState)
    (unread unwritten stopped : Bool) (told : Talked) (answered : Status)
    → s.session ≡ session → stopped ≡ any_stopped (length t.session.machine.jobs) t.session.machine.jobs → answered ≡ talk_status strict stopped told
    → ((calls : List Call) × passes calls × Talks Asks echo s t calls unread unwritten told)
    → (x : Scene) → IsShown session x → DebugsFrom passes unread unwritten echo strict x answered
converses passes echo strict s t session unread unwritten stopped told answered same tells means (calls, made, talks) x shown =
    let alike = talks_alike Asks AnswersText Shows follows echo s t x calls unread unwritten told
    (subst (λ (u : SessionState). IsShown u x) (sym same) shown) talks in
    (calls, told, alike.0, made, alike.1, means ∙ status_alike told strict stopped t alike.0 tells alike.2)

-- ---- what is asked for

pub does_talk : (command : Command) (json : Bool) (file : Option Text) (asked : Option (Partner × Text)) (p : Partner) (name : Text) (silent : Type 0)
    (talks : Partner → File → Status → Type 0) (standard : Option (List ℕ)) (files : Text → Option (List ℕ)) (failed : Bool)
    (old new : Option (List ℕ)) (lost : Bool) (s : Status) (stats : List ℕ)
    → Some (p, name) ≡ asked → Holds p (files name) silent (talks p) failed old new lost s stats
    → Does command json file asked silent talks standard files failed old new lost s stats
does_talk command json file asked p name silent talks standard files failed old new lost s stats is done =
    subst (λ (a : Option (Partner × Text)). Does command json file a silent talks standard files failed old new lost s stats) is done

pub does_else : (command : Command) (json : Bool) (file : Option Text) (asked : Option (Partner × Text)) (silent : Type 0)
    (talks : Partner → File → Status → Type 0) (standard : Option (List ℕ)) (files : Text → Option (List ℕ)) (failed : Bool)
    (old new : Option (List ℕ)) (lost : Bool) (s : Status) (stats : List ℕ)
    → None ≡ asked → silent → IsShownAs json (λ before after cut answered. Performs command (input_of standard files file) failed before
    after cut answered stats) old new lost s
    → Does command json file asked silent talks standard files failed old new lost s stats
does_else command json file asked silent talks standard files failed old new lost s stats is quiet done =
    subst (λ (a : Option (Partner × Text)). Does command json file a silent talks standard files failed old new lost s stats) is (quiet, done)

-- of a file by either of its names
pub renamed : (command : Command) (json : Bool) (one other : Option Text) (silent : Type 0) (talks : Partner → File → Status → Type 0)
    (standard : Option (List ℕ)) (files : Text → Option (List ℕ)) (failed : Bool) (old new : Option (List ℕ)) (lost : Bool) (s : Status) (stats : List ℕ)
    → one ≡ other → Does command json one (asked_talk command one json) silent talks standard files failed old new lost s stats
    → Does command json other (asked_talk command other json) silent talks standard files failed old new lost s stats
renamed command json one other silent talks standard files failed old new lost s stats same done =
    subst (λ (name : Option Text). Does command json name (asked_talk command name json) silent talks standard files failed old new lost s stats) same done
