-- A conversation with a session over CPUs with store buffers is one with the scenes that it shows.
use Rattle.std.proofs.Common.{◌≡◌, ◌∙◌, Bool, false, ℕ, List, Option, Some, None, length, refl, sym, subst}
use Rattle.bpf_cpu.specs.Task.{Task}
use Rattle.bpf_jobs.specs.Printed.{any_stopped}
use Rattle.bpf_buffer_debug.specs.Session.{Scene, SessionState, IsShown}
use Rattle.bpf_buffer_debug.specs.Script.{ShowsScene}
use Rattle.bpf_talk.specs.Terminal.{Call}
use Rattle.bpf_talk.specs.Talking.{Talks}
use Rattle.bpf_talk.specs.declared.talking.Talked.{Talked}
use Rattle.bpf_talk.specs.declared.talking.Talked.TheVariants as talked
use Rattle.bpf_talk.proofs.Alike.{Left, talks_alike}
use Rattle.bpf_replies.specs.BufferScript.{HasStopped}
use Rattle.bpf_replies.specs.declared.reply.Status.{Status}
use Rattle.bpf_run.specs.Answering.{AnswersBufferText, BufferSessionAnswers}
use Rattle.bpf_run.specs.Conversing.{BufferDebugsFrom, talk_status}
use Rattle.bpf_run.specs.declared.buffer_answering.BufferAnswering.{BufferAnswering}

abbrev Asks : BufferAnswering → BufferAnswering → (line text : List ℕ) → (refused : Bool) → Type 0
Asks old new = BufferSessionAnswers old.session new.session

abbrev Shows : BufferAnswering → Option Scene → Type 0
Shows s x = ShowsScene s.session x

follows : (s t : BufferAnswering) (line text : List ℕ) (refused : Bool) (x : Option Scene) → Asks s t line text refused → Shows s x →
    (y : Option Scene) × AnswersBufferText x y line text refused × Shows t y
follows s t line text refused x answers shown = answers x shown

-- what is said of the machine in the end, where anything is
abbrev stopped_of : Option Scene → Bool
stopped_of None = false
stopped_of (Some y) = any_stopped (length y.here.world.jobs) y.here.world.jobs

has_stopped : (y : Option Scene) → HasStopped y (stopped_of y)
has_stopped None = tt
has_stopped (Some y) = refl

ends : (told : Talked) (strict stopped : Bool) (t : BufferAnswering) (y : Option Scene) → stopped ≡ any_stopped
    (length t.session.machine.machine.jobs) t.session.machine.machine.jobs → Left Asks AnswersBufferText Shows follows told t y
    → (b : Bool) × HasStopped y b × (talk_status strict stopped told ≡ talk_status strict b told)
ends (talked.Over refused) strict stopped t None tells shown = (stopped, tt, refl)
ends (talked.Over refused) strict stopped t (Some y) tells shown =
    (stopped, subst (λ (jobs : List Task). stopped ≡ any_stopped (length jobs) jobs) (sym shown.here.world.jobs) tells, refl)
ends (talked.Refused why) strict stopped t y tells shown = (stopped_of y, has_stopped y, refl)
ends talked.CutOff strict stopped t y tells shown = (stopped_of y, has_stopped y, refl)

pub converses : (passes : List Call → Type 0) (echo strict : Bool) (s t : BufferAnswering) (session : SessionState)
    (unread unwritten stopped : Bool) (told : Talked) (answered : Status)
    → s.session ≡ session → stopped ≡ any_stopped (length t.session.machine.machine.jobs) t.session.machine.machine.jobs
    → answered ≡ talk_status strict stopped told
    → ((calls : List Call) × passes calls × Talks Asks echo s t calls unread unwritten told)
    → (x : Scene) → IsShown session x → BufferDebugsFrom passes unread unwritten echo strict x answered
converses passes echo strict s t session unread unwritten stopped told answered same tells means (calls, made, talks) x shown =
    let alike = talks_alike Asks AnswersBufferText Shows follows echo s t (Some x) calls unread unwritten told
    (subst (λ (u : SessionState). IsShown u x) (sym same) shown) talks in
    let end = ends told strict stopped t alike.0 tells alike.2 in
    (calls, told, alike.0, end.0, made, alike.1, end.1, means ∙ end.2)
