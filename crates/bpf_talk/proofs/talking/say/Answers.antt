use Rattle.std.proofs.Common.{◌∷◌, [], length, map, refl}
use Rattle.std.specs.List.{concat}
use Rattle.bpf_talk.specs.Terminal.{Flushed}
use Rattle.bpf_talk.proofs.TerminalLaws.{put_as}
use Rattle.bpf_talk.proofs.Texts.{err_then, ok_then}
use Rattle.bpf_talk.proofs.talking.say.Goals as goal

pub returns-clause-said : goal.returns-clause-said
returns-clause-said g c =
    let put = c.in_ok-put_all.ensures.put in
    ok_then c.flush.result _ _ (λ made. (
      Flushed ∷ put.0,
      g.met.D.Terminal.follows c.args.terminal.now c.put_all.new.terminal
          c.flush.new.self put.0 (Flushed ∷ []) put.1 made,
      (put.2, refl),
    )) c.flush.ensures.made

pub returns-clause-begun : goal.returns-clause-begun
returns-clause-begun g c =
    let put = c.in_ok-put_all.ensures.put in
    let all = concat (map (λ t. t.now) c.args.texts.now) in
    err_then c.flush.result _ _ (λ lost. (
      length all,
      put.0,
      g.met.D.Terminal.follows c.args.terminal.now c.put_all.new.terminal
          c.flush.new.self put.0 [] put.1 lost,
      put_as all put.0 put.2,
    )) c.flush.ensures.lost
