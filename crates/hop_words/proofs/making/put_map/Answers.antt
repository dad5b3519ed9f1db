use Rattle.std.proofs.Common.{◌≡◌, ℕ, ◌+◌, ◌*◌, ap, sym, subst, ◌∙◌, arith}
use Rattle.hop_layout.specs.declared.place.Place.{Place}
use Rattle.hop_layout.specs.declared.place.Place.TheVariants.{Stamp}
use Rattle.hop_layout.specs.declared.about.About.{About}
use Rattle.bpf_shared.specs.declared.shapes.MapShape.{MapShape}
use Rattle.hop_layout.specs.Layout.{mem, put_at, free_words, segments, first_depth}
use Rattle.hop_words.specs.Ghost.{shape_at}
use Rattle.hop_words.specs.Private.Made.{IsPartly}
use Rattle.hop_words.proofs.FirstWords.{bits_on, stamps_on, map_on}
use Rattle.hop_words.proofs.making.put_map.Goals as goal

pub bits-preserved : goal.bits-preserved
bits-preserved c =
    let a = c.args.index.now in (
      c.put.ensures.sized,
      subst (λ (w : Place → ℕ). IsPartly a w a.shape.cpus c.args.map (c.bits.word + 1) 0) (sym c.put.ensures.put)
          (bits_on a (mem a.shape c.bits.words.items) a.shape.cpus c.args.map c.bits.word 0 c.bits.invariant.1),
    )

pub stamps-preserved : goal.stamps-preserved
stamps-preserved c =
    let a = c.args.index.now in
    let w : Place → ℕ = mem a.shape c.stamps.words.items in
    let number : c.about.result.now.version * 256 + 2 * c.from.result ≡ a.version * 256 + 2 * first_depth (shape_at a c.args.map) =
    (let v = ap (λ (x : About). x.version) c.about.ensures in let f = c.from.ensures in let d = c.first_depth.ensures.value in
    let s = ap (λ (g : MapShape). first_depth g) c.requires.shape in omega arith)
    in (
      c.put-in-stamps.ensures.sized,
      subst (λ (v : Place → ℕ). IsPartly a v a.shape.cpus c.args.map (free_words (shape_at a c.args.map)) (c.stamps.segment + 1))
          (sym (c.put-in-stamps.ensures.put ∙ ap (λ (n : ℕ). put_at w (Stamp c.args.map c.stamps.segment) n) number))
          (stamps_on a w a.shape.cpus c.args.map (free_words (shape_at a c.args.map)) c.stamps.segment c.stamps.invariant.1),
    )

pub returns-clause-partly : goal.returns-clause-partly
returns-clause-partly c =
    let a = c.args.index.now in
    let n : c.stamps.segment ≡ segments (shape_at a c.args.map) =
    (let e = c.segments-segment-end.ensures in let f = c.stamps-test.false in let g = c.stamps.auto.segment-end in
    let s = ap segments c.requires.shape in omega arith)
    in
    map_on a (mem a.shape c.stamps.words.items) a.shape.cpus c.args.map
    (subst (λ (s : ℕ). IsPartly a (mem a.shape c.stamps.words.items) a.shape.cpus c.args.map (free_words (shape_at a c.args.map)) s) n
    c.stamps.invariant.1)
