use Rattle.std.proofs.Common.{◌≡◌, ℕ, ◌+◌, ◌*◌, ◌++◌, take, ap, sym, subst, ◌∙◌, arith}
use Rattle.bpf_base.specs.Bytes.{low_bytes}
use Rattle.hop_words.specs.declared.known.Known.{Known}
use Rattle.hop_layout.specs.declared.place.Place.TheVariants.{KeyWord}
use Rattle.hop_layout.specs.Layout.{mem}
use Rattle.hop_words.specs.Rule.{image}
use Rattle.hop_words.specs.Locking.{lock_of}
use Rattle.hop_words.specs.Guarded.{IsGuarded}
use Rattle.hop_map.proofs.Dumps.{spelled_more}
use Rattle.hop_map.proofs.listing.add_key.Goals as goal

pub words-preserved : goal.words-preserved
words-preserved c =
    let a = c.args.table.now.about in
    let i = c.words.invariant in
    let w = c.words.word in
    let place = KeyWord c.args.map c.args.element w in
    let f : ℕ → ℕ = (image a (lock_of c.args.lane.now.known).copy).key c.args.map c.args.element in
    let guard : IsGuarded a c.words.lane.known place = subst (λ (l : Known). IsGuarded a l place) (sym i.known) (c.requires.map, c.requires.linked) in
    let found : c.read_guarded.result ≡ f w = c.read_guarded.ensures.word guard ∙ ap (λ (l : Known). mem a.shape (lock_of l).copy place) i.known in
    let more : 8 * (w + 1) ≡ 8 * w + 8 = omega arith in
    record {
      table = c.read_guarded.ensures.table ∙ i.table;
      known = c.read_guarded.ensures.same ∙ i.known;
      size = c.put_word.ensures.size ∙ i.size;
      words = ap (λ (n : ℕ). take n c.put_word.new.bytes) more ∙
          (c.put_word.ensures.put ∙ ((λ j. i.words j ++ low_bytes 8 (found j)) ∙ sym (spelled_more w f)));
    }
