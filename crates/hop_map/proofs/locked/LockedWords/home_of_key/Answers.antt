use Rattle.std.proofs.Common.{◌≡◌, ◌+◌, ◌/◌, ℕ, true, take, ap, sym, subst, ◌∙◌}
use Rattle.bpf_base.specs.Bytes.{low_bytes}
use Rattle.bpf_shared.specs.declared.shapes.MapShape.{MapShape}
use Rattle.hop_layout.specs.declared.place.Place.{Place}
use Rattle.hop_layout.specs.declared.place.Place.TheVariants.{KeyWord}
use Rattle.hop_layout.specs.Home.{home_of}
use Rattle.hop_layout.specs.Layout.{mem}
use Rattle.hop_layout.specs.Words.{bytes_of_words}
use Rattle.hop_words.specs.Ghost.{shape_at}
use Rattle.hop_words.specs.Rule.{image}
use Rattle.hop_words.specs.Locking.{lock_of}
use Rattle.hop_words.specs.Guarded.{IsGuarded}
use Rattle.hop_map.specs.LockedSegment.{Locked, knows}
use Rattle.hop_map.specs.Private.LockedSegment.{spelled_key}
use Rattle.hop_map.proofs.Spliced.{bytes_of}
use Rattle.hop_map.proofs.Written.{mine}
use Rattle.hop_map.proofs.locked.LockedWords.home_of_key.Goals as goal

one_word : (size : ℕ) (f : ℕ → ℕ) → size ≡ 8 → take size (bytes_of_words ((size + 7) / 8) f) ≡ low_bytes 8 (f 0)
one_word size f is = ap (λ (n : ℕ). take n (bytes_of_words ((n + 7) / 8) f)) is

pub returns-then-shape-eq8-clause-home : goal.returns-then-shape-eq8-clause-home
returns-then-shape-eq8-clause-home c =
    let i = c.self.inside in
    let x = c.args.self.now in
    let p : Place = KeyWord i.map c.args.element 0 in
    let f : ℕ → ℕ = (image x.about (lock_of x.known).copy).key x.map c.args.element in
    let kn = subst (λ (y : Locked). knows y.known y.map c.args.element ≡ true) (sym c.self.view_is) c.requires.known in
    let guarded = subst (λ (y : Locked). IsGuarded y.about y.known p) c.self.view_is
    (mine i.table.now.about i.lane.known i.map i.segment c.args.element c.self.invariant.ready kn) in
    let found : c.read.result ≡ f 0 = c.read.ensures.value guarded
    ∙ ap (λ (m : ℕ). mem x.about.shape (lock_of x.known).copy (KeyWord m c.args.element 0)) (ap (λ (y : Locked). y.map) c.self.view_is) in
    let size : (shape_at x.about x.map).key ≡ 8 = ap (λ (g : MapShape). g.key) (sym c.shape-shape.ensures.shape) ∙ c.if-shape-eq8.true in
    let bytes : c.to_le_bytes-bytes.result ≡ spelled_key x.about x.map (image x.about (lock_of x.known).copy) c.args.element =
    c.to_le_bytes-bytes.ensures ∙ (bytes_of c.read.result ∙ (ap (low_bytes 8) found ∙ sym (one_word (shape_at x.about x.map).key f size))) in
    c.home.ensures.home ∙ (λ j. home_of (bytes j) (c.seed-seed.ensures j) ((c.shape-shape.ensures.shape j).mask))
