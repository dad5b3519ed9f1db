use Rattle.std.proofs.Common.{◌≡◌, ◌<◌, length, ap, sym, ◌∙◌, arith}
use Rattle.std.specs.FinMap.{len}
use Rattle.bpf_shared.specs.Store.{Plain}
use Rattle.hop_layout.specs.declared.about.About.{About}
use Rattle.hop_layout.specs.declared.place.Place.TheVariants.{KeyCount}
use Rattle.hop_layout.specs.Layout.{mem}
use Rattle.hop_words.specs.Closing.{Ending}
use Rattle.hop_map.proofs.closed.Closed.stats.Goals as goal

pub returns-clause-keys : goal.returns-clause-keys
returns-clause-keys c = λ last is.
    let m = c.args.map in
    let maps : length c.maps.result.now ≡ length c.args.self.now.about.shape.maps =
    ap length (c.maps.ensures.maps ∙ (ap (λ (b : About). b.shape.maps) c.about.ensures.about ∙ ap (λ (z : Ending). z.about.shape.maps) c.self.view_is)) in
    let inside : m < length c.args.self.now.about.shape.maps = (let t = c.if-map-maps.false in omega (arith, maps)) in
    c.word-keys.ensures.word
    ∙ (ap (λ (z : Ending). mem z.about.shape z.words (KeyCount m)) c.self.view_is
    ∙ (is.0.rule.keyed.counted m inside ∙ ap (λ (s : Plain). len (s.maps m)) (sym is.1)))
