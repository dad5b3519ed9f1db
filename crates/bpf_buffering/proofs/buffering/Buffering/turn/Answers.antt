use Rattle.std.proofs.Common.{◌≡◌, List, sym, ap, subst, ◌∙◌}
use Rattle.std.specs.Prelude.{Option}
use Rattle.std.proofs.lemmas.Result.{IfOk-weaker}
use Rattle.bpf_cpu.specs.declared.outcome.Outcome.{Outcome}
use Rattle.bpf_cpu.specs.Task.{Task}
use Rattle.bpf_machine.specs.declared.machine.Turn.{Turn}
use Rattle.bpf_machine.specs.declared.machine.Turn.TheVariants.{Idle}
use Rattle.bpf_machine.specs.Hands.{IsFree, NoneWaits}
use Rattle.bpf_machine.specs.Work.{HasInHand}
use Rattle.bpf_x86.specs.Machine.{TurnOf}
use Rattle.bpf_buffering.specs.Search.{BufferedState, MovesTo}
use Rattle.bpf_buffering.specs.Jobs.{tasks_of, IsLowest}
use Rattle.bpf_buffering.specs.Buffering.{answer_of, Proceeds, TurnsTo}
use Rattle.bpf_buffering.proofs.Keeping.{same_host, host_then, not_idle}
use Rattle.bpf_buffering.proofs.Moving.{turn_is_move, turn_in_hand, turn_idle, turn_begins, begun_in_hand}
use Rattle.bpf_buffering.proofs.buffering.Buffering.turn.Goals as goal

pub returns-in-Some-clause-turns : goal.returns-in-Some-clause-turns
returns-in-Some-clause-turns c =
    let old = c.args.self.now in
    let new = c.proceed.new.self in
    let jobs : tasks_of c.deref.result.now ≡ old.machine.jobs = ap tasks_of c.deref.ensures.value ∙ ap (λ (s : BufferedState). s.machine.jobs) c.self.view_is in
    let has : HasInHand old.machine.jobs c.args.cpu c.in-Some.job = subst (λ (ts : List Task). HasInHand ts c.args.cpu c.in-Some.job) jobs
    c.in-Some.ensures.some in
    IfOk-weaker c.proceed.result (λ turn. (end : Option Outcome) × (turn ≡ answer_of c.in-Some.job end) × Proceeds old c.args.cpu
    c.in-Some.job end new) (λ turn. TurnsTo old c.args.cpu turn new)
    (λ turn p. subst (λ (t : Turn). TurnsTo old c.args.cpu t new) (sym p.1) (turn_in_hand old new c.args.cpu c.in-Some.job p.0 has p.2))
    c.proceed.ensures.proceeds

pub returns-in-Some-clause-moves : goal.returns-in-Some-clause-moves
returns-in-Some-clause-moves c =
    let old = c.args.self.now in
    let new = c.proceed.new.self in
    let jobs : tasks_of c.deref.result.now ≡ old.machine.jobs = ap tasks_of c.deref.ensures.value ∙ ap (λ (s : BufferedState). s.machine.jobs) c.self.view_is in
    let has : HasInHand old.machine.jobs c.args.cpu c.in-Some.job = subst (λ (ts : List Task). HasInHand ts c.args.cpu c.in-Some.job) jobs
    c.in-Some.ensures.some in
    IfOk-weaker c.proceed.result (λ turn. (end : Option Outcome) × (turn ≡ answer_of c.in-Some.job end) × Proceeds old c.args.cpu
    c.in-Some.job end new) (λ turn. MovesTo old (TurnOf c.args.cpu) new)
    (λ turn p. turn_is_move old new c.args.cpu (answer_of c.in-Some.job p.0) (turn_in_hand old new c.args.cpu c.in-Some.job p.0 has p.2))
    c.proceed.ensures.proceeds

pub proceed-requires-in-Some-find_waiting : goal.proceed-requires-in-Some-find_waiting
proceed-requires-in-Some-find_waiting c = begun_in_hand c.args.self.now c.begin.new.self c.args.cpu c.in-Some-find_waiting.job
    c.in_ok-begin-in-Some-find_waiting.ensures.begins

pub returns-in_ok-begin-in-Some-find_waiting-clause-turns : goal.returns-in_ok-begin-in-Some-find_waiting-clause-turns
returns-in_ok-begin-in-Some-find_waiting-clause-turns c =
    let old = c.args.self.now in
    let mid = c.begin.new.self in
    let new = c.proceed-in-Some-find_waiting.new.self in
    let job = c.in-Some-find_waiting.job in
    let jobs : tasks_of c.deref.result.now ≡ old.machine.jobs = ap tasks_of c.deref.ensures.value ∙ ap (λ (s : BufferedState). s.machine.jobs) c.self.view_is in
    let again : tasks_of c.deref-2.result.now ≡ old.machine.jobs = ap tasks_of c.deref-2.ensures.value ∙ ap
    (λ (s : BufferedState). s.machine.jobs) c.self.view_is in
    let free : IsFree old.machine.jobs c.args.cpu = subst (λ (ts : List Task). IsFree ts c.args.cpu) jobs c.in_default.ensures.none in
    let lowest : IsLowest old.machine.jobs c.args.cpu job = subst (λ (ts : List Task). IsLowest ts c.args.cpu job) again c.in-Some-find_waiting.ensures.some in
    IfOk-weaker c.proceed-in-Some-find_waiting.result (λ turn. (end : Option Outcome) × (turn ≡ answer_of job end) × Proceeds mid c.args.cpu
    job end new) (λ turn. TurnsTo old c.args.cpu turn new)
    (λ turn p. subst (λ (t : Turn). TurnsTo old c.args.cpu t new) (sym p.1)
    (turn_begins old mid new c.args.cpu job p.0 free lowest c.in_ok-begin-in-Some-find_waiting.ensures.begins p.2))
    c.proceed-in-Some-find_waiting.ensures.proceeds

pub returns-in_ok-begin-in-Some-find_waiting-clause-moves : goal.returns-in_ok-begin-in-Some-find_waiting-clause-moves
returns-in_ok-begin-in-Some-find_waiting-clause-moves c =
    let old = c.args.self.now in
    let mid = c.begin.new.self in
    let new = c.proceed-in-Some-find_waiting.new.self in
    let job = c.in-Some-find_waiting.job in
    let jobs : tasks_of c.deref.result.now ≡ old.machine.jobs = ap tasks_of c.deref.ensures.value ∙ ap (λ (s : BufferedState). s.machine.jobs) c.self.view_is in
    let again : tasks_of c.deref-2.result.now ≡ old.machine.jobs = ap tasks_of c.deref-2.ensures.value ∙ ap
    (λ (s : BufferedState). s.machine.jobs) c.self.view_is in
    let free : IsFree old.machine.jobs c.args.cpu = subst (λ (ts : List Task). IsFree ts c.args.cpu) jobs c.in_default.ensures.none in
    let lowest : IsLowest old.machine.jobs c.args.cpu job = subst (λ (ts : List Task). IsLowest ts c.args.cpu job) again c.in-Some-find_waiting.ensures.some in
    IfOk-weaker c.proceed-in-Some-find_waiting.result (λ turn. (end : Option Outcome) × (turn ≡ answer_of job end) × Proceeds mid c.args.cpu
    job end new) (λ turn. MovesTo old (TurnOf c.args.cpu) new)
    (λ turn p. turn_is_move old new c.args.cpu (answer_of job p.0)
    (turn_begins old mid new c.args.cpu job p.0 free lowest c.in_ok-begin-in-Some-find_waiting.ensures.begins p.2))
    c.proceed-in-Some-find_waiting.ensures.proceeds

pub returns-in-None-clause-turns : goal.returns-in-None-clause-turns
returns-in-None-clause-turns c =
    let old = c.args.self.now in
    let jobs : tasks_of c.deref.result.now ≡ old.machine.jobs = ap tasks_of c.deref.ensures.value ∙ ap (λ (s : BufferedState). s.machine.jobs) c.self.view_is in
    let again : tasks_of c.deref-2.result.now ≡ old.machine.jobs = ap tasks_of c.deref-2.ensures.value ∙ ap
    (λ (s : BufferedState). s.machine.jobs) c.self.view_is in
    let free : IsFree old.machine.jobs c.args.cpu = subst (λ (ts : List Task). IsFree ts c.args.cpu) jobs c.in_default.ensures.none in
    let none : NoneWaits old.machine.jobs c.args.cpu = subst (λ (ts : List Task). NoneWaits ts c.args.cpu) again c.in-None.ensures.none in
    turn_idle old c.args.cpu free none

pub returns-in-None-clause-moves : goal.returns-in-None-clause-moves
returns-in-None-clause-moves c =
    let old = c.args.self.now in
    let jobs : tasks_of c.deref.result.now ≡ old.machine.jobs = ap tasks_of c.deref.ensures.value ∙ ap (λ (s : BufferedState). s.machine.jobs) c.self.view_is in
    let again : tasks_of c.deref-2.result.now ≡ old.machine.jobs = ap tasks_of c.deref-2.ensures.value ∙ ap
    (λ (s : BufferedState). s.machine.jobs) c.self.view_is in
    let free : IsFree old.machine.jobs c.args.cpu = subst (λ (ts : List Task). IsFree ts c.args.cpu) jobs c.in_default.ensures.none in
    let none : NoneWaits old.machine.jobs c.args.cpu = subst (λ (ts : List Task). NoneWaits ts c.args.cpu) again c.in-None.ensures.none in
    turn_is_move old old c.args.cpu Idle (turn_idle old c.args.cpu free none)

pub returns-in-Some-clause-idle : goal.returns-in-Some-clause-idle
returns-in-Some-clause-idle c =
    let old = c.args.self.now in
    let new = c.proceed.new.self in
    IfOk-weaker c.proceed.result (λ turn. (end : Option Outcome) × (turn ≡ answer_of c.in-Some.job end) × Proceeds old c.args.cpu
    c.in-Some.job end new) (λ turn. turn ≡ Idle → new ≡ old)
    (λ turn p idle. absurd (not_idle c.in-Some.job p.0 (sym p.1 ∙ idle))) c.proceed.ensures.proceeds

pub returns-in_ok-begin-in-Some-find_waiting-clause-idle : goal.returns-in_ok-begin-in-Some-find_waiting-clause-idle
returns-in_ok-begin-in-Some-find_waiting-clause-idle c =
    let old = c.args.self.now in
    let mid = c.begin.new.self in
    let new = c.proceed-in-Some-find_waiting.new.self in
    let job = c.in-Some-find_waiting.job in
    IfOk-weaker c.proceed-in-Some-find_waiting.result (λ turn. (end : Option Outcome) × (turn ≡ answer_of job end) × Proceeds mid c.args.cpu
    job end new) (λ turn. turn ≡ Idle → new ≡ old)
    (λ turn p idle. absurd (not_idle job p.0 (sym p.1 ∙ idle))) c.proceed-in-Some-find_waiting.ensures.proceeds

pub returns-in_ok-begin-in-Some-find_waiting-clause-host : goal.returns-in_ok-begin-in-Some-find_waiting-clause-host
returns-in_ok-begin-in-Some-find_waiting-clause-host c =
    host_then c.args.self.now.machine c.begin.new.self.machine c.proceed-in-Some-find_waiting.new.self.machine c.begin.ensures.host
    c.proceed-in-Some-find_waiting.ensures.host

pub returns-in-None-clause-host : goal.returns-in-None-clause-host
returns-in-None-clause-host c = same_host c.args.self.now.machine
