use Rattle.std.proofs.Common.{arith, ◌∙◌, [], length-drop, length-take, refl}
use Rattle.bpf_talk.proofs.TerminalLaws.{put_some, put_whole}
use Rattle.bpf_talk.proofs.Texts.{for_err}
use Rattle.bpf_talk.proofs.talking.put.Goals as goal

pub loop-count-init : goal.loop-count-init
loop-count-init g c = record {
  fits = omega arith;
  put = ([], g.met.D.Terminal.nothing c.args.terminal.now, (tt, refl));
  works = c.requires;
  quiet = refl;
}

pub loop-count-preserved : goal.loop-count-preserved
loop-count-preserved g c =
    let before = c.loop-count.invariant.put in
    let count = c.loop-count.count in
    let bytes = c.args.bytes.now in
    record {
      fits = grind (arith, c.in_ok-count.ensures.bound, length-drop count bytes, length-take);
      put = (
        _,
        g.met.D.Terminal.follows c.args.terminal.now c.loop-count.terminal c.write.new.self before.0 _ before.1 c.in_ok-count.ensures.made,
        put_some bytes count c.in_ok-count.field-0 before.0 before.2,
      );
      works = c.in_ok-count.ensures.told;
      quiet = c.in_ok-count.ensures.readable ∙ c.loop-count.invariant.quiet;
    }

pub returns-clause-put : goal.returns-clause-put
returns-clause-put g c =
    let before = c.loop-count.invariant.put in
    (before.0, before.1, put_whole c.args.bytes.now c.loop-count.count before.0 (omega arith) before.2)

pub returns-in_err-count-clause-begun : goal.returns-in_err-count-clause-begun
returns-in_err-count-clause-begun g c =
    let before = c.loop-count.invariant.put in
    for_err c.from_residual.result _ (
      c.loop-count.count,
      before.0,
      g.met.D.Terminal.follows c.args.terminal.now c.loop-count.terminal
          c.write.new.self before.0 [] before.1 c.in_err-count.ensures.lost,
      before.2,
    )
