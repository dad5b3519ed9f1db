use Rattle.std.proofs.Common.{◌+◌, ◌∙◌, [], map, refl}
use Rattle.std.specs.List.{concat}
use Rattle.bpf_talk.proofs.Texts.{far_cut, for_err, far_more, next_text, texts_left}
use Rattle.bpf_talk.proofs.talking.put_all.Goals as goal

pub loop-text-init : goal.loop-text-init
loop-text-init g c = record {
  far = record {
    before = [];
    calls = [];
    reached = g.met.D.Terminal.nothing c.args.terminal.now;
    put = (tt, refl);
    whole = refl;
  };
  works = c.requires;
  quiet = refl;
}

pub loop-text-preserved : goal.loop-text-preserved
loop-text-preserved g c =
    let passes = g.D.Terminal.passes in
    let start = c.args.terminal.now in
    let mid = c.loop-text.terminal in
    let new = c.put.new.terminal in
    let texts = c.args.texts.now in
    let i = c.loop-text.text-index in
    let put = c.in_ok-put.ensures.put in
    record {
      far = far_more (passes start mid) (passes start new) (concat (map (λ t. t.now) texts)) (texts_left texts i) _ (texts_left texts (i + 1)) put.0
          (λ calls p. g.met.D.Terminal.follows start mid new calls put.0 p put.1) (next_text texts i _ c.loop-text-test.true) put.2 c.loop-text.invariant.far;
      works = c.in_ok-put.ensures.told;
      quiet = c.in_ok-put.ensures.readable ∙ c.loop-text.invariant.quiet;
    }

pub returns-in_err-put-clause-begun : goal.returns-in_err-put-clause-begun
returns-in_err-put-clause-begun g c =
    let passes = g.D.Terminal.passes in
    let start = c.args.terminal.now in
    let mid = c.loop-text.terminal in
    let new = c.put.new.terminal in
    let texts = c.args.texts.now in
    let i = c.loop-text.text-index in
    let put = c.in_err-put.ensures.begun in
    for_err c.from_residual.result _ (far_cut (passes start mid) (passes start new) (concat (map (λ t. t.now) texts)) (texts_left texts i) _
    (texts_left texts (i + 1)) put.0 put.1
    (λ calls p. g.met.D.Terminal.follows start mid new calls put.1 p put.2) (next_text texts i _ c.loop-text-test.true) put.3 c.loop-text.invariant.far)
