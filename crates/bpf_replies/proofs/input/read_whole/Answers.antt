use Rattle.std.proofs.Common.{arith, ◌<◌, ◌∙◌, ap, length, length-append, length-drop, length-take, drop, take}
use Rattle.bpf_replies.proofs.KnownBytes.{consumed_more, longer, taken_more}
use Rattle.bpf_replies.proofs.input.read_whole.Goals as goal

pub returns-in_err-read_more-clause-taken : goal.returns-in_err-read_more-clause-taken
returns-in_err-read_more-clause-taken g c = taken_more _ _ _ c.loop.input.items (take c.min-most.result c.loop.chunk) 16777217
    c.loop.invariant.3 c.read_more.ensures.taken
    (let known = c.loop.input.ok.0 in omega (arith, length-take c.min-most.result c.loop.chunk))

pub returns-then-branch-eq0-clause-taken : goal.returns-then-branch-eq0-clause-taken
returns-then-branch-eq0-clause-taken g c = taken_more _ _ _ c.loop.input.items (take c.min-most.result c.loop.chunk) 16777217
    c.loop.invariant.3 c.read_more.ensures.taken
    (let known = c.loop.input.ok.0 in omega (arith, length-take c.min-most.result c.loop.chunk))

pub returns-then-len-gt-MAX_INPUT-clause-too_long :
    goal.returns-then-len-gt-MAX_INPUT-clause-too_long
returns-then-len-gt-MAX_INPUT-clause-too_long g c =
    let more = c.in_ok-read_more.ensures.more in
    let known = c.read_more.new.input.ok.0 in
    let long : 16777216 < length c.read_more.new.input.items = omega arith in
    λ _. longer _ _ c.read_more.new.input.items 16777216 (consumed_more _ _ _ c.loop.input.items c.read_more.new.input.items more.0
    c.loop.invariant.3 more.1 more.3) long

pub returns-then-len-gt-MAX_INPUT-clause-taken : goal.returns-then-len-gt-MAX_INPUT-clause-taken
returns-then-len-gt-MAX_INPUT-clause-taken g c = taken_more _ _ _ c.loop.input.items (take c.min-most.result c.loop.chunk) 16777217
    c.loop.invariant.3 c.read_more.ensures.taken
    (let known = c.loop.input.ok.0 in omega (arith, length-take c.min-most.result c.loop.chunk))

pub loop-preserved : goal.loop-preserved
loop-preserved g c =
    let more = c.in_ok-read_more.ensures.more in
    let known = c.read_more.new.input.ok.0 in
    let grown = ap length more.1 in
    let some = more.2 in
    let kept = c.read_more.auto.room in (
      omega (arith, length-append c.loop.input.items more.0),
      omega arith,
      omega (
        arith,
        length-append c.read_more.new.room (drop c.min-most.result c.loop.chunk),
        length-take c.min-most.result c.loop.chunk,
        length-drop c.min-most.result c.loop.chunk,
      ),
      consumed_more _ _ _ c.loop.input.items c.read_more.new.input.items more.0 c.loop.invariant.3 more.1 more.3,
      c.in_ok-read_more.ensures.unread,
      (let counted = c.read_more.ensures.reads in omega arith),
      c.read_more.ensures.files ∙ c.loop.invariant.6,
    )
