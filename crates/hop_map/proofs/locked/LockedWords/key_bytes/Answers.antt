use Rattle.std.proofs.Common.{◌≡◌, ℕ, ◌+◌, ◌*◌, ◌++◌, true, take, ap, sym, subst, ◌∙◌, arith}
use Rattle.bpf_base.specs.Bytes.{low_bytes}
use Rattle.hop_layout.specs.declared.place.Place.{Place}
use Rattle.hop_layout.specs.declared.place.Place.TheVariants.{KeyWord}
use Rattle.hop_layout.specs.Layout.{mem}
use Rattle.hop_words.specs.Rule.{image}
use Rattle.hop_words.specs.Locking.{lock_of}
use Rattle.hop_words.specs.Guarded.{IsGuarded}
use Rattle.hop_map.specs.LockedSegment.{Locked, knows}
use Rattle.hop_map.proofs.Dumps.{spelled_more}
use Rattle.hop_map.proofs.Written.{mine}
use Rattle.hop_map.proofs.locked.LockedWords.key_bytes.Goals as goal

pub words-preserved : goal.words-preserved
words-preserved c =
    let i = c.self.inside in
    let v = c.words.invariant in
    let w = c.words.word in
    let x = c.args.self.now in
    let p : Place = KeyWord i.map c.args.element w in
    let f : ℕ → ℕ = (image x.about (lock_of x.known).copy).key x.map c.args.element in
    let kn = subst (λ (x : Locked). knows x.known x.map c.args.element ≡ true) (sym (c.self.view_is ∙ v.same)) c.requires.known in
    let guarded = subst (λ (x : Locked). IsGuarded x.about x.known p) c.self.view_is
    (mine i.table.now.about i.lane.known i.map i.segment c.args.element c.self.invariant.ready kn) in
    let found : c.read.result ≡ f w =
    c.read.ensures.value guarded
    ∙ (ap (λ (m : ℕ). mem c.words.self.about.shape (lock_of c.words.self.known).copy (KeyWord m c.args.element w)) (ap (λ (x : Locked). x.map) c.self.view_is)
    ∙ ap (λ (x : Locked). mem x.about.shape (lock_of x.known).copy (KeyWord x.map c.args.element w)) v.same) in
    let more : 8 * (w + 1) ≡ 8 * w + 8 = omega arith in
    record {
      same = c.read.ensures.same ∙ v.same;
      size = c.put_word.ensures.size ∙ v.size;
      words = ap (λ (n : ℕ). take n c.put_word.new.bytes) more ∙
          (c.put_word.ensures.put ∙ ((λ j. v.words j ++ low_bytes 8 (found j)) ∙ sym (spelled_more w f)));
    }
