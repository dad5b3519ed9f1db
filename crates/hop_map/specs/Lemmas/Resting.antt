-- The laws of reads that the trait of the words asks for.
use Rattle.std.proofs.Common.{◌≡◌, ℕ, List, [], ◌∷◌, ◌++◌, true, refl, ap, sym, subst, ◌∙◌, append_assoc}
use Rattle.hop_words.specs.declared.known.Known.{Known}
use Rattle.hop_words.specs.declared.known.Reading.{Reading}
use Rattle.hop_words.specs.declared.known.Peek.{Peek}
use Rattle.hop_words.specs.declared.known.Sight.{Sight}
use Rattle.hop_words.specs.Sights.{look}
use Rattle.hop_words.specs.Content.{MapWords, Reached, IsShare}
use Rattle.hop_words.specs.Ghost.{shape_at, Each}
use Rattle.hop_words.specs.Rule.{IsPeek}
use Rattle.hop_words.specs.Peeking.{latest_reading}
use Rattle.hop_seg.specs.Words.{Words as SegWords}
use Rattle.hop_map.specs.Private.LockedSegment.{segment_view}
use Rattle.hop_map.specs.Private.Peeks.{Peeked, HavePeeks, Agreed, OnlyReads, looks_of, key_words_of, elements_in}
use Rattle.hop_words.specs.Depths.{stamp_depth, home_by}

pub rested_itself : (x : Peeked) → OnlyReads x x
rested_itself x = record {
  table = refl;
  about = refl;
  map = refl;
  segment = refl;
  known = refl;
  more = [];
  reading = refl;
  noted = refl;
}

-- looks at more words are more looks
pub looks_append : (xs ys : List Peek) → looks_of (xs ++ ys) ≡ looks_of xs ++ looks_of ys
looks_append [] ys = refl
looks_append (x ∷ xs) ys =
    ap (λ (ss : List Sight). look x.place x.number ∷ ss) (looks_append xs ys)

pub rested_on : (x y z : Peeked) → OnlyReads x y → OnlyReads y z → OnlyReads x z
rested_on x y z p q = record {
  table = q.table ∙ p.table;
  about = q.about ∙ p.about;
  map = q.map ∙ p.map;
  segment = q.segment ∙ p.segment;
  known = q.known ∙ ap (λ (l : Known). record l {
    readings = z.known.readings;
    tally = z.known.tally;
  }) p.known;
  more = q.more ++ p.more;
  reading = q.reading ∙ (ap (λ (r : Reading). record r { peeks = q.more ++ r.peeks }) p.reading
      ∙ (λ j. record (latest_reading x.known)
      { peeks = sym (append_assoc q.more p.more (latest_reading x.known).peeks) j }));
  noted = q.noted ∙ (ap (λ (ss : List Sight). looks_of q.more ++ ss) p.noted
      ∙ (sym (append_assoc (looks_of q.more) (looks_of p.more) x.known.tally)
      ∙ ap (λ (ss : List Sight). ss ++ x.known.tally) (sym (looks_append q.more p.more))));
}

each_after : (P : Peek → Type 0) (xs ys : List Peek) → Each P (xs ++ ys) → Each P ys
each_after P [] ys all = all
each_after P (x ∷ xs) ys all = each_after P xs ys all.1

module _ (x y : Peeked) (p : OnlyReads x y) where
  abbrev here : Peeked
  here = record x { known = y.known }

  pub back : y ≡ here
  back = λ j. record {
    table = p.table j;
    about = p.about j;
    known = y.known;
    map = p.map j;
    segment = p.segment j;
  }

  -- the sizes of the map are the same
  pub rested_alike : (elements_in y ≡ elements_in x) × (key_words_of y ≡ key_words_of x)
  rested_alike = (ap elements_in back, ap key_words_of back)

  -- what was read later was read too
  pub had_peeks : (w : MapWords) → HavePeeks w y → HavePeeks w x
  had_peeks w all =
      let P : Peek → Type 0 = λ (q : Peek). IsPeek w x.map x.segment q.place q.number in
      each_after P p.more (latest_reading x.known).peeks
      (subst (λ (r : Reading). Each P r.peeks) p.reading
      (subst (λ (z : Peeked). HavePeeks w z) back all))

  -- the stamp noted is the same
  pub one_stamp : (latest_reading y.known).stamp ≡ (latest_reading x.known).stamp
  one_stamp = ap (λ (r : Reading). r.stamp) p.reading

  unfoldable pub agreed_before : (w : SegWords) → Agreed y w → Agreed x w
  agreed_before w g = record {
    words = g.words;
    content = g.content;
    share = subst (λ (i : ℕ). IsShare x.about.seed (shape_at x.about x.map)
        (home_by x.about x.map (stamp_depth i)) g.words x.map x.segment g.content) one_stamp
        (subst (λ (z : Peeked). IsShare z.about.seed (shape_at z.about z.map)
        (home_by z.about z.map (stamp_depth (latest_reading y.known).stamp)) g.words z.map z.segment
        g.content) back g.share);
    peeks = had_peeks g.words g.peeks;
    known = g.known;
    known_is = subst (λ (z : Peeked). (e : ℕ) → g.known e ≡ true
        → Reached g.words z.map z.segment e) back g.known_is;
    shown = g.shown
        ∙ (ap (λ (z : Peeked). segment_view z.about z.map z.segment
        (stamp_depth (latest_reading y.known).stamp) g.known g.words) back
        ∙ ap (λ (i : ℕ). segment_view x.about x.map x.segment (stamp_depth i) g.known g.words)
        one_stamp);
  }
