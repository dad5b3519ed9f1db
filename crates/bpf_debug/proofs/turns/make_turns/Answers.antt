use Rattle.std.proofs.Common.{◌≡◌, ℕ, subst, arith}
use Rattle.std.specs.Prelude.{string_bytes, string_len, string_capacity}
use Rattle.bpf_machine.proofs.HostLaws.{same_host, same_host_still}
use Rattle.bpf_debug.proofs.ManyTurns.{Made, none_made, one_made, turn_falls, room_kept}
use Rattle.bpf_debug.proofs.turns.make_turns.Goals as goal

pub loop-init : goal.loop-init
loop-init c = record {
  made = none_made c.args.machine.now c.args.cpu (string_bytes c.args.out.now);
  same = same_host c.args.machine.now;
  room = c.requires.room;
}

pub loop-preserved : goal.loop-preserved
loop-preserved c =
    let old = c.args.machine.now in
    let new = c.loop.machine in
    let next = c.turn-turn.new.self in
    let cpu = c.args.cpu in
    let answer = c.turn-turn.result in
    let before = string_bytes c.args.out.now in
    let after = string_bytes c.loop.out in
    let made = c.loop.invariant.made in
    let fall = turn_falls c.turns_fall.ensures old new next cpu c.loop.counter before after answer c.requires.shown.0 c.requires.shown.1
    made c.turn-turn.ensures.turn in
    record {
      made = one_made old new next cpu c.loop.counter before after (string_bytes c.put_ended.new.out) answer made c.turn-turn.ensures.turn
          c.put_ended.ensures.text;
      same = same_host_still old new next c.loop.invariant.same c.turn-turn.ensures.same;
      room = room_kept answer new.jobs next.jobs (string_len c.loop.out) (string_len c.put_ended.new.out) (string_capacity c.loop.out)
          (string_capacity c.put_ended.new.out) fall c.loop.invariant.room c.put_ended.ensures.room c.put_ended.ensures.size c.put_ended.ensures.none;
    }

pub returns-clause-made : goal.returns-clause-made
returns-clause-made c =
    let last = c.loop-test.false in
    let end = c.loop.auto.counter-end in
    let same : c.loop.counter ≡ c.args.count = omega arith in
    let M : ℕ → Type 0 = λ n. Made c.args.machine.now c.args.cpu (string_bytes c.args.out.now) c.loop.machine n (string_bytes c.loop.out) in
    subst M same c.loop.invariant.made
