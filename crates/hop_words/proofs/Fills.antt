-- Fill word: the next word of the key or of the value of the element in hand. Give bit of that element.
use Rattle.std.proofs.Common.{◌≡◌, ◌≢◌, ℕ, zero, suc, ◌+◌, ◌/◌, ◌%◌, ◌^◌, ◌<◌, ◌≤◌, Bool, true, false, ◌&&◌, List, [], ◌∷◌, ◌++◌, ◌==◌}
use Rattle.std.proofs.Common.{length, take, slice_index, bit_or, refl, ap, sym, subst, ◌∙◌, arith, eq-eqb, ne_eqb, ⊎_elim, inl, inr, ◌⊎◌}
use Rattle.std.proofs.lemmas.Nat.Bits.{bit_at_or, bit_at-lt, bit_at-pow_same, bit_at-pow_other}
use Rattle.std.specs.Int.{bit_at}
use Rattle.std.proofs.lemmas.Bool.{cases_eq}
use Rattle.bpf_shared.specs.declared.events.Event.{Event}
use Rattle.bpf_shared.specs.Store.{put}
use Rattle.bpf_shared.specs.History.{events_of}
use Rattle.bpf_shared.specs.Own.{in_run}
use Rattle.bpf_shared.specs.Shape.{element_span}
use Rattle.bpf_shared.proofs.Puts.{put-same, put-other}
use Rattle.hop_layout.specs.declared.place.Place.{Place}
use Rattle.hop_layout.specs.declared.place.Place.TheVariants.{FreeBits, Stamp, KeyWord, ValueWord}
use Rattle.hop_layout.specs.declared.about.About.{About}
use Rattle.hop_words.specs.declared.known.Known.{Known}
use Rattle.hop_words.specs.declared.known.Fresh.{Fresh}
use Rattle.hop_words.specs.declared.known.Sight.{Sight}
use Rattle.hop_layout.specs.Layout.{mem, put_at, words_for}
use Rattle.hop_layout.specs.Words.{bytes_of_words}
use Rattle.hop_words.specs.Content.{words_by_place, one_if}
use Rattle.hop_words.specs.Ghost.{Holder, Free, Filling, Within, is_free, is_filling, is_leaving, Carries, lane, Ghost, shape_at, HasElement, Each}
use Rattle.hop_words.specs.Rule.{Rule, times_fresh, begun_in, StartsWith, Minded}
use Rattle.hop_words.specs.Shortage.{updates_of}
use Rattle.hop_words.specs.Sights.{LeavesElements, ShowsTaken, IsTakenSince, bit_set, sighted}
use Rattle.hop_words.specs.Private.Step.{Next, Steps, Notes}
use Rattle.hop_words.specs.Private.Kinds.{filling_key, filling_value}
use Rattle.hop_words.proofs.Small.{here_or, put2-same, put2-other}
use Rattle.hop_words.proofs.Spelling.{IsFilled}
use Rattle.hop_words.proofs.Shortages.{begun_fill, IsAnothers, begun_give, causes_made, empty_still, took_more, settled, settles_put, shown_step, hand_rest}
use Rattle.hop_words.proofs.Histories.{prefix_refl}
use Rattle.hop_words.proofs.Comes.{moved, in_hand, filling_most}
use Rattle.hop_words.proofs.Locks.{put_here, put_else}
use Rattle.hop_words.proofs.Owners.{bits_step, linked_outside, valued_outside, locking_outside}
use Rattle.hop_words.proofs.Gives.{segments_words, locking_words}

-- a list with one more number
snoc : (ns : List ℕ) (n : ℕ) (w : ℕ → ℕ) → ((k : ℕ) → k < length ns → w k ≡ slice_index ns k) → w (length ns) ≡ n → (k : ℕ) → k < length
    (ns ++ n ∷ []) → w k ≡ slice_index (ns ++ n ∷ []) k
snoc [] n w old new zero l = new
snoc [] n w old new (suc k) l = absurd (omega arith)
snoc (x ∷ ns) n w old new zero l = old 0 (omega arith)
snoc (x ∷ ns) n w old new (suc k) l = snoc ns n (λ j. w (suc j)) (λ j h. old (suc j) (omega arith)) new k (omega arith)

-- an element in hand is there once, and no other CPU has it
module _ (a : About) (w : Place → ℕ) (g : Ghost) (r : Rule a w g) (c : ℕ) (inside : c < a.shape.cpus) (f : Fresh) (rest : List Fresh)
    (hand : g.lanes.fresh c ≡ f ∷ rest) (at_e : HasElement a f.map f.element) where
  pub was : g.holder f.map f.element ≡ Filling c
  was = in_hand a _ g.lanes.fresh g.lanes.limbo g.holder c f.map f rest r.owned inside at_e refl hand

  times_own : times_fresh f.map f.element (f ∷ rest) ≡ 1 + times_fresh f.map f.element rest
  times_own = rw (eq-eqb f.map f.map refl, eq-eqb f.element f.element refl) refl

  pub none_behind : times_fresh f.map f.element rest ≡ 0
  none_behind = let q = r.owned.fresh_is c f.map f.element inside at_e in let h = ap (times_fresh f.map f.element) hand in let o = times_own in
      let y : one_if (is_filling c (g.holder f.map f.element)) ≡ 1 = ap (λ z. one_if (is_filling c z)) was ∙ ap one_if (eq-eqb c c refl) in omega arith

  -- what others fill is another element
  pub other_apart : (b : ℕ) (d : Fresh) → b < a.shape.cpus → b ≢ c → 1 ≤ times_fresh d.map d.element (g.lanes.fresh b) → d.map ≡ f.map → d.element ≢ f.element
  other_apart b d inb ne has t u =
      let at_d : HasElement a d.map d.element = subst (λ (n : ℕ). HasElement a n d.element) (sym t) (subst (HasElement a f.map) (sym u) at_e) in
      let q = r.owned.fresh_is b d.map d.element inb at_d in
      let other = filling_most b (g.holder d.map d.element) (omega arith) in
      let same : Filling b ≡ Filling c = sym other ∙ ((λ j. g.holder (t j) (u j)) ∙ was) in
      ne cc

  pub rest_apart : (d : Fresh) → 1 ≤ times_fresh d.map d.element rest → d.map ≡ f.map → d.element ≢ f.element
  rest_apart d has t u =
      let z : times_fresh d.map d.element rest ≡ times_fresh f.map f.element rest = λ j. times_fresh (t j) (u j) rest in let n = none_behind in omega arith

-- a fact of each element of a list, by one of those that are counted in it
each_by : (P Q : Fresh → Type 0) (fs all : List Fresh) → ((d : Fresh) → 1 ≤ times_fresh d.map d.element fs → 1 ≤ times_fresh d.map d.element
    all) → ((d : Fresh) → 1 ≤ times_fresh d.map d.element all → P d → Q d) → Each P fs → Each Q fs
each_by P Q [] all more on p = tt
each_by P Q (f ∷ fs) all more on p = (
  on f (more f (let z : one_if ((f.map == f.map) && (f.element == f.element)) ≡ 1 = rw (eq-eqb f.map f.map refl, eq-eqb f.element f.element refl) refl in
      omega arith))
      p.0,
  each_by P Q fs all (λ d has. more d (omega arith)) on p.1,
)

module _ (a : About) (l : Known) (f : Fresh) (rest : List Fresh) (hand : l.fresh ≡ f ∷ rest) (at_e : HasElement a f.map f.element)
    (unlocked : l.locks ≡ []) (n : ℕ)
    (ws : List ℕ) (g : Ghost) (r : Rule a (mem a.shape ws) g) (is : lane g.lanes l.cpu ≡ l) (inside : l.cpu < a.shape.cpus) where
  abbrev w : Place → ℕ
  w = mem a.shape ws

  mine : g.lanes.fresh l.cpu ≡ f ∷ rest
  mine = ap (λ (z : Known). z.fresh) is ∙ hand

  filling : g.holder f.map f.element ≡ Filling l.cpu
  filling = was a w g r l.cpu inside f rest mine at_e

  own_list : Each (IsFilled w) (f ∷ rest)
  own_list = subst (Each (IsFilled w)) mine (r.filled l.cpu inside)

  -- the element in hand with other words, and all else as it was
  module _ (key value : List ℕ) where
    abbrev other : Fresh
    other = record f { key = key; value = value }

    fresh_on : (b m e : ℕ) → b < a.shape.cpus → HasElement a m e → times_fresh m e (put g.lanes.fresh l.cpu (other ∷ rest) b) ≡ one_if
        (is_filling b (g.holder m e))
    fresh_on b m e inb l2 = ⊎_elim
        (λ (t : b ≡ l.cpu). ap (times_fresh m e) (put-same g.lanes.fresh l.cpu b (other ∷ rest) t) ∙
        (ap (times_fresh m e) (sym (ap g.lanes.fresh t ∙ mine)) ∙ r.owned.fresh_is b m e inb l2))
        (λ (ne : b ≢ l.cpu). ap (times_fresh m e) (put-other g.lanes.fresh l.cpu b (other ∷ rest) ne) ∙ r.owned.fresh_is b m e inb l2)
        (cases_eq b l.cpu)

    filled_on : (w2 : Place → ℕ) → ((d : Fresh) → (d.map ≡ f.map → d.element ≢ f.element) → IsFilled w d → IsFilled w2 d) → IsFilled w2 other
        → (b : ℕ) → b < a.shape.cpus → Each (IsFilled w2) (put g.lanes.fresh l.cpu (other ∷ rest) b)
    filled_on w2 keep own b inb = ⊎_elim
        (λ (t : b ≡ l.cpu). subst (Each (IsFilled w2)) (sym (put-same g.lanes.fresh l.cpu b (other ∷ rest) t))
        (own, each_by (IsFilled w) (IsFilled w2) rest rest (λ d h. h) (λ d h p. keep d (rest_apart a w g r l.cpu inside f rest mine at_e d h) p) own_list.1))
        (λ (ne : b ≢ l.cpu). subst (Each (IsFilled w2)) (sym (put-other g.lanes.fresh l.cpu b (other ∷ rest) ne))
        (each_by (IsFilled w) (IsFilled w2) (g.lanes.fresh b) (g.lanes.fresh b) (λ d h. h)
        (λ d h p. keep d (other_apart a w g r l.cpu inside f rest mine at_e b d inb ne h) p) (r.filled b inb)))
        (cases_eq b l.cpu)

  key_step : Next a (put_at w (KeyWord f.map f.element (length f.key)) n) g l.cpu (λ l'. l' ≡ filling_key l f rest n)
  key_step = record {
    ghost = g2;
    rule = record {
      shaped = r.shaped;
      fixed = r.fixed;
      deep = r.deep;
      logged = r.logged;
      keyed = r.keyed;
      worn = r.worn;
      runs = r.runs;
      batched = r.batched;
      owned = record {
        bits = r.owned.bits;
        fresh_is = fresh_on (f.key ++ n ∷ []) f.value;
        limbo_is = r.owned.limbo_is;
      };
      linked = r.linked;
      filled = filled_on (f.key ++ n ∷ []) f.value w2 keep (own_new, own_list.0.1);
      segments = segments_words a g.depths (words_by_place w) (words_by_place w2) (λ m t. w (Stamp m t)) g.eras g.linked g.holder r.linked
          (λ m t. refl) (λ m t b. refl) (λ m t b. refl)
          (λ m d q h. (
            refl,
            λ k. elsewhere m d k
                (λ u v. let z : Within q ≡ Filling l.cpu = sym h ∙ ((λ j. g.holder (u j) (v j)) ∙ filling) in cc),
          )) r.segments;
      locking = locking_words a g.depths (words_by_place w) (words_by_place w2) (λ m t. w (Stamp m t)) g.eras g.linked g.holder
          g.lanes.locks l.cpu (ap (λ (z : Known). z.locks) is ∙ unlocked) (λ m t. refl) (λ m t b. refl) (λ m t b. refl)
          (λ home m t d b ne on. (refl, λ k. elsewhere m d k (λ u v. ne (sym (subst (Minded home b t) ((λ j. g.holder (u j) (v j)) ∙ filling) on))))) r.locking;
      reading = r.reading;
      held = r.held;
      valued = r.valued;
      shown = shown_step a g.log g.log g.last g.last g.lanes.fresh (put g.lanes.fresh l.cpu (f2 ∷ rest)) g.lanes.tally g.holder g.holder
          g.taker (begun_fill g.log g.lanes.fresh l.cpu f f2 rest mine refl refl)
          (causes_made a.shape a.version (begun_in g.log g.lanes.fresh) (begun_in g.log (put g.lanes.fresh l.cpu (f2 ∷ rest))) g.log g.last
          (λ m d _. begun_fill g.log g.lanes.fresh l.cpu f f2 rest mine refl refl m d) r.shown.causes)
          (λ d p. ⊎_elim (λ (none : g.lanes.fresh d ≡ []). inl (empty_still g.lanes.fresh l.cpu f rest (f2 ∷ rest) mine d none))
          (λ (run : in_run (events_of d g.log) ≡ true). inr run) p)
          (λ p h. h) (settled g.holder)
          (λ b m d inb at has. inr
          (let q = r.owned.fresh_is b m d inb at in
          let z : times_fresh m d (put g.lanes.fresh l.cpu (f2 ∷ rest) b) ≡ one_if (is_filling b (g.holder m d)) = fresh_on
          (f.key ++ n ∷ []) f.value b m d inb at in
          omega arith))
          r.shown;
    };
    others = λ d ne. rw (ne_eqb d l.cpu ne) refl;
    longer = prefix_refl g.log;
    tally = refl;
    says = rw (eq-eqb l.cpu l.cpu refl) (ap (λ (z : Known). record z { fresh = f2 ∷ rest }) is);
  }
    where
      f2 : Fresh
      f2 = record f { key = f.key ++ n ∷ [] }

      w2 : Place → ℕ
      w2 = put_at w (KeyWord f.map f.element (length f.key)) n

      g2 : Ghost
      g2 = record g { lanes = record g.lanes { fresh = put g.lanes.fresh l.cpu (f2 ∷ rest) } }

      map_of : Place → ℕ
      map_of (KeyWord m e k) = m
      map_of p = 0

      element_of : Place → ℕ
      element_of (KeyWord m e k) = e
      element_of p = 0

      word_of : Place → ℕ
      word_of (KeyWord m e k) = k
      word_of p = 0

      elsewhere : (m e k : ℕ) → (m ≡ f.map → e ≢ f.element) → w2 (KeyWord m e k) ≡ w (KeyWord m e k)
      elsewhere m e k ne = put_else w (KeyWord f.map f.element (length f.key)) (KeyWord m e k) n (λ q. ne (ap map_of q) (ap element_of q))

      earlier : (k : ℕ) → k ≢ length f.key → w2 (KeyWord f.map f.element k) ≡ w (KeyWord f.map f.element k)
      earlier k ne = put_else w (KeyWord f.map f.element (length f.key)) (KeyWord f.map f.element k) n (λ q. ne (ap word_of q))

      keep : (d : Fresh) → (d.map ≡ f.map → d.element ≢ f.element) → IsFilled w d → IsFilled w2 d
      keep d ne p = ((λ j lt. elsewhere d.map d.element j ne ∙ p.0 j lt), p.1)

      own_new : StartsWith (f.key ++ n ∷ []) (λ j. w2 (KeyWord f.map f.element j))
      own_new = snoc f.key n (λ j. w2 (KeyWord f.map f.element j)) (λ j lt. earlier j (λ e. omega arith) ∙ own_list.0.0 j lt)
          (put_here w (KeyWord f.map f.element (length f.key)) n)

  value_step : Next a (put_at w (ValueWord f.map f.element (length f.value)) n) g l.cpu (λ l'. l' ≡ filling_value l f rest n)
  value_step = record {
    ghost = g2;
    rule = record {
      shaped = r.shaped;
      fixed = r.fixed;
      deep = r.deep;
      logged = r.logged;
      keyed = r.keyed;
      worn = r.worn;
      runs = r.runs;
      batched = r.batched;
      owned = record {
        bits = r.owned.bits;
        fresh_is = fresh_on f.key (f.value ++ n ∷ []);
        limbo_is = r.owned.limbo_is;
      };
      linked = r.linked;
      filled = filled_on f.key (f.value ++ n ∷ []) w2 keep (own_list.0.0, own_new);
      segments = r.segments;
      locking = r.locking;
      reading = r.reading;
      held = r.held;
      valued = record {
        lies = λ m e at has. r.valued.lies m e at has ∙ ap (λ (h : ℕ → ℕ). record
            { bytes = take (shape_at a m).value (bytes_of_words (words_for (shape_at a m).value) h); span = element_span m (shape_at a m) e })
            (λ t k. sym (elsewhere m e k (λ u v. subst Carries ((λ j. g.holder (u j) (v j)) ∙ filling) has)) t);
        older = r.valued.older;
        held_in = r.valued.held_in;
      };
      shown = shown_step a g.log g.log g.last g.last g.lanes.fresh (put g.lanes.fresh l.cpu (f2 ∷ rest)) g.lanes.tally g.holder g.holder
          g.taker (begun_fill g.log g.lanes.fresh l.cpu f f2 rest mine refl refl)
          (causes_made a.shape a.version (begun_in g.log g.lanes.fresh) (begun_in g.log (put g.lanes.fresh l.cpu (f2 ∷ rest))) g.log g.last
          (λ m d _. begun_fill g.log g.lanes.fresh l.cpu f f2 rest mine refl refl m d) r.shown.causes)
          (λ d p. ⊎_elim (λ (none : g.lanes.fresh d ≡ []). inl (empty_still g.lanes.fresh l.cpu f rest (f2 ∷ rest) mine d none))
          (λ (run : in_run (events_of d g.log) ≡ true). inr run) p)
          (λ p h. h) (settled g.holder)
          (λ b m d inb at has. inr
          (let q = r.owned.fresh_is b m d inb at in
          let z : times_fresh m d (put g.lanes.fresh l.cpu (f2 ∷ rest) b) ≡ one_if (is_filling b (g.holder m d)) = fresh_on f.key
          (f.value ++ n ∷ []) b m d inb at in
          omega arith))
          r.shown;
    };
    others = λ d ne. rw (ne_eqb d l.cpu ne) refl;
    longer = prefix_refl g.log;
    tally = refl;
    says = rw (eq-eqb l.cpu l.cpu refl) (ap (λ (z : Known). record z { fresh = f2 ∷ rest }) is);
  }
    where
      f2 : Fresh
      f2 = record f { value = f.value ++ n ∷ [] }

      w2 : Place → ℕ
      w2 = put_at w (ValueWord f.map f.element (length f.value)) n

      g2 : Ghost
      g2 = record g { lanes = record g.lanes { fresh = put g.lanes.fresh l.cpu (f2 ∷ rest) } }

      map_of : Place → ℕ
      map_of (ValueWord m e k) = m
      map_of p = 0

      element_of : Place → ℕ
      element_of (ValueWord m e k) = e
      element_of p = 0

      word_of : Place → ℕ
      word_of (ValueWord m e k) = k
      word_of p = 0

      elsewhere : (m e k : ℕ) → (m ≡ f.map → e ≢ f.element) → w2 (ValueWord m e k) ≡ w (ValueWord m e k)
      elsewhere m e k ne = put_else w (ValueWord f.map f.element (length f.value)) (ValueWord m e k) n (λ q. ne (ap map_of q) (ap element_of q))

      earlier : (k : ℕ) → k ≢ length f.value → w2 (ValueWord f.map f.element k) ≡ w (ValueWord f.map f.element k)
      earlier k ne = put_else w (ValueWord f.map f.element (length f.value)) (ValueWord f.map f.element k) n (λ q. ne (ap word_of q))

      keep : (d : Fresh) → (d.map ≡ f.map → d.element ≢ f.element) → IsFilled w d → IsFilled w2 d
      keep d ne p = (p.0, (λ j lt. elsewhere d.map d.element j ne ∙ p.1 j lt))

      own_new : StartsWith (f.value ++ n ∷ []) (λ j. w2 (ValueWord f.map f.element j))
      own_new = snoc f.value n (λ j. w2 (ValueWord f.map f.element j)) (λ j lt. earlier j (λ e. omega arith) ∙ own_list.0.1 j lt)
          (put_here w (ValueWord f.map f.element (length f.value)) n)

pub fill_key : (a : About) (l : Known) (f : Fresh) (rest : List Fresh) (n : ℕ) → l.fresh ≡ f ∷ rest → HasElement a f.map f.element → l.locks ≡ []
    → Steps a l (KeyWord f.map f.element (length f.key)) (λ _. n) (λ ws found l'. l' ≡ filling_key l f rest n)
fill_key a l f rest n hand at_e unlocked ws g sized r is inside fits = key_step a l f rest hand at_e unlocked n ws g r is inside

pub fill_value : (a : About) (l : Known) (f : Fresh) (rest : List Fresh) (n : ℕ) → l.fresh ≡ f ∷ rest → HasElement a f.map f.element → l.locks ≡ []
    → Steps a l (ValueWord f.map f.element (length f.value)) (λ _. n) (λ ws found l'. l' ≡ filling_value l f rest n)
fill_value a l f rest n hand at_e unlocked ws g sized r is inside fits = value_step a l f rest hand at_e unlocked n ws g r is inside

-- ---- give bit of the element in hand
pub give_fresh : (a : About) (l : Known) (f : Fresh) (rest : List Fresh) → l.fresh ≡ f ∷ rest → HasElement a f.map f.element → f.update <
    updates_of f.map (events_of l.cpu l.seen)
    → Notes a l (FreeBits f.map (f.element / 64)) (λ n. bit_or n (2 ^ (f.element % 64)))
    (λ ws n l'. l' ≡ sighted (record l { fresh = rest }) (bit_set f.map f.element n))
unfolding took_more
give_fresh a l f rest hand at_e answered ws g sized r is inside fits = record {
  ghost = g2;
  rule = record {
    shaped = r.shaped;
    fixed = r.fixed;
    deep = r.deep;
    logged = r.logged;
    keyed = r.keyed;
    worn = r.worn;
    runs = r.runs;
    batched = r.batched;
    owned = record {
      bits = bits_step a w g.holder f.map f.element _ Free r.owned.bits
          (λ j lj ne. bit_at_or (w (FreeBits f.map (f.element / 64))) (2 ^ (f.element % 64)) j ∙
          (let z = bit_at-pow_other (f.element % 64) j ne in omega arith))
          (bit_at_or (w (FreeBits f.map (f.element / 64))) (2 ^ (f.element % 64)) (f.element % 64) ∙
          (let z = bit_at-pow_same (f.element % 64) in let y = bit_at-lt (w (FreeBits f.map (f.element / 64))) (f.element % 64) in omega arith));
      fresh_is = λ b n d inb l2. ⊎_elim
          (λ (t : b ≡ l.cpu). ap (times_fresh n d) (put-same g.lanes.fresh l.cpu b rest t) ∙ subst
          (λ z. times_fresh n d rest ≡ one_if (is_filling z (holder2 n d))) (sym t) (own n d l2))
          (λ (ne : b ≢ l.cpu). ap (times_fresh n d) (put-other g.lanes.fresh l.cpu b rest ne) ∙
          (r.owned.fresh_is b n d inb l2 ∙ sym (moved (λ z. one_if (is_filling b z)) g.holder f.map f.element (Filling l.cpu) Free filling
          (sym (ap one_if (ne_eqb l.cpu b (λ (q : l.cpu ≡ b). ne (sym q))))) n d)))
          (cases_eq b l.cpu);
      limbo_is = λ b n d inb l2. r.owned.limbo_is b n d inb l2 ∙ sym
          (moved (λ z. one_if (is_leaving b z)) g.holder f.map f.element (Filling l.cpu) Free filling refl n d);
    };
    linked = linked_outside a g.holder f.map f.element (Filling l.cpu) Free filling g.linked (λ s z. cc) (λ s z. cc) r.linked;
    filled = λ b inb. ⊎_elim
        (λ (t : b ≡ l.cpu). subst (Each (IsFilled w)) (sym (put-same g.lanes.fresh l.cpu b rest t)) (subst (Each (IsFilled w)) mine (r.filled l.cpu inside)).1)
        (λ (ne : b ≢ l.cpu). subst (Each (IsFilled w)) (sym (put-other g.lanes.fresh l.cpu b rest ne)) (r.filled b inb))
        (cases_eq b l.cpu);
    segments = r.segments;
    locking = locking_outside a g.holder f.map f.element (Filling l.cpu) Free filling g.depths (words_by_place w) (λ n t. w (Stamp n t))
        g.eras g.linked g.lanes.locks (λ b. inr (λ home t z. absurd z)) r.locking;
    reading = r.reading;
    held = r.held;
    valued = valued_outside a g.holder f.map f.element (Filling l.cpu) Free filling _ g.last.made g.last.value g.last.held g.number (λ z. z)
        (λ c h z. z) r.valued;
    shown = record {
      causes = causes_made a.shape a.version (begun_in g.log g.lanes.fresh) (begun_in g.log (put g.lanes.fresh l.cpu rest)) g.log g.last
          (λ m d _. gives m d) r.shown.causes;
      running = λ d. ⊎_elim (λ (none : g.lanes.fresh d ≡ []). inl (empty_still g.lanes.fresh l.cpu f rest rest mine d none))
          (λ (run : in_run (events_of d g.log) ≡ true). inr run) (r.shown.running d);
      took = λ n d at_d held.
          let k = r.shown.took n d at_d ((settles_put g.holder f.map f.element Free (λ ne _. ne refl) (λ c u. cc) n d).0 held) in (
            took_more a g.log g.log g.lanes.fresh (put g.lanes.fresh l.cpu rest) g.taker n d gives k.0,
            λ c q. k.1 c
                ((settles_put g.holder f.map f.element Free (λ ne _. ne refl) (λ c u. cc) n d).1 c q),
          );
      taken = λ b n d inb at_d seen. ⊎_elim
          (λ (t : b ≡ l.cpu). still b n d inb at_d t (subst (λ (z : List Sight). IsTakenSince z n d)
          (put-same g.lanes.tally l.cpu b (given ∷ g.lanes.tally l.cpu) t) seen))
          (λ (ne : b ≢ l.cpu). kept b n d (λ q. absurd (ne q)) (r.shown.taken b n d inb at_d
          (subst (λ (z : List Sight). IsTakenSince z n d) (put-other g.lanes.tally l.cpu b (given ∷ g.lanes.tally l.cpu) ne) seen)))
          (cases_eq b l.cpu);
    };
  };
  others = λ d ne. rw (ne_eqb d l.cpu ne) refl;
  longer = prefix_refl g.log;
  tally = put-same g.lanes.tally l.cpu l.cpu (given ∷ g.lanes.tally l.cpu) refl;
  says = rw (eq-eqb l.cpu l.cpu refl) (ap (λ (z : Known). record z { fresh = rest; tally = given ∷ z.tally }) is);
}
  where
    w : Place → ℕ
    w = mem a.shape ws

    holder2 : ℕ → ℕ → Holder
    holder2 = put g.holder f.map (put (g.holder f.map) f.element Free)

    given : Sight
    given = bit_set f.map f.element (w (FreeBits f.map (f.element / 64)))

    g2 : Ghost
    g2 = record g {
      lanes = record g.lanes {
        fresh = put g.lanes.fresh l.cpu rest;
        tally = put g.lanes.tally l.cpu
            (given ∷ g.lanes.tally l.cpu);
      };
      holder = holder2;
    }

    mine : g.lanes.fresh l.cpu ≡ f ∷ rest
    mine = ap (λ (z : Known). z.fresh) is ∙ hand

    filling : g.holder f.map f.element ≡ Filling l.cpu
    filling = was a w g r l.cpu inside f rest mine at_e

    at_f : (n : ℕ) → n ≡ f.map → (LeavesElements n given → ⊥)
    at_f n t leaves =
        let look : bit_or (w (FreeBits f.map (f.element / 64))) (2 ^ (f.element % 64)) ≡ w (FreeBits f.map (f.element / 64)) = leaves
        (f.element / 64) (λ j. FreeBits (sym t j) (f.element / 64)) in
        let now : bit_at (bit_or (w (FreeBits f.map (f.element / 64))) (2 ^ (f.element % 64))) (f.element % 64) ≡ bit_at
        (w (FreeBits f.map (f.element / 64))) (f.element % 64) = ap (λ (x : ℕ). bit_at x (f.element % 64)) look in
        let both = bit_at_or (w (FreeBits f.map (f.element / 64))) (2 ^ (f.element % 64)) (f.element % 64) in
        let one = bit_at-pow_same (f.element % 64) in
        let was_clear = r.owned.bits f.map f.element at_e in
        let none : one_if (is_free (g.holder f.map f.element)) ≡ 0 = ap (λ (x : Holder). one_if (is_free x)) filling in
        omega arith

    map_of : Place → ℕ
    map_of (FreeBits m i) = m
    map_of p = 0

    gives : (m d : ℕ) → begun_in g.log g.lanes.fresh m d ≤ begun_in g.log (put g.lanes.fresh l.cpu rest) m d
    gives = begun_give g.log g.lanes.fresh l.cpu f rest mine (subst (λ (es : List Event). f.update < updates_of f.map es)
        (ap (events_of l.cpu) (sym (ap (λ (z : Known). z.seen) is)) ∙ r.logged.own l.cpu inside) answered)

    -- of another map, all is as it was
    kept : (b n d : ℕ) → (b ≡ l.cpu → n ≢ f.map) → IsAnothers a g g.lanes.fresh b n d ⊎ (1 ≤ times_fresh n d (g.lanes.fresh b)) → IsAnothers
        a g (put g.lanes.fresh l.cpu rest) b n d ⊎ (1 ≤ times_fresh n d (put g.lanes.fresh l.cpu rest b))
    kept b n d apart was_so = ⊎_elim
        (λ (may : IsAnothers a g g.lanes.fresh b n d). inl (
          took_more a g.log g.log g.lanes.fresh (put g.lanes.fresh l.cpu rest) g.taker n d
              gives may.0,
          may.1,
        ))
        (λ (has : 1 ≤ times_fresh n d (g.lanes.fresh b)). ⊎_elim
        (λ (t : b ≡ l.cpu). ⊎_elim
        (λ (h : (n ≡ f.map) × (d ≡ f.element)). absurd (apart t h.0))
        (λ (h : 1 ≤ times_fresh n d (put g.lanes.fresh l.cpu rest b)). inr h)
        (hand_rest g.lanes.fresh l.cpu f rest mine b n d has))
        (λ (ne : b ≢ l.cpu). inr (subst (λ (z : List Fresh). 1 ≤ times_fresh n d z) (sym (put-other g.lanes.fresh l.cpu b rest ne)) has))
        (cases_eq b l.cpu))
        was_so

    still : (b n d : ℕ) → b < a.shape.cpus → HasElement a n d → b ≡ l.cpu → LeavesElements n given ×
        (ShowsTaken given n d ⊎ IsTakenSince (g.lanes.tally l.cpu) n d)
        → IsAnothers a g (put g.lanes.fresh l.cpu rest) b n d ⊎ (1 ≤ times_fresh n d (put g.lanes.fresh l.cpu rest b))
    still b n d inb at_d t seen = ⊎_elim
        (λ (shows : ShowsTaken given n d). absurd (at_f n (sym (ap map_of shows.0)) seen.0))
        (λ (before : IsTakenSince (g.lanes.tally l.cpu) n d). kept b n d (λ _ q. at_f n q seen.0)
        (r.shown.taken b n d inb at_d (subst (λ (i : ℕ). IsTakenSince (g.lanes.tally i) n d) (sym t) before)))
        seen.1

    own : (n d : ℕ) → HasElement a n d → times_fresh n d rest ≡ one_if (is_filling l.cpu (holder2 n d))
    own n d l2 = ⊎_elim
        (λ (t : (n ≡ f.map) × (d ≡ f.element)). (λ j. times_fresh (t.0 j) (t.1 j) rest) ∙
        (none_behind a w g r l.cpu inside f rest mine at_e ∙ ap (λ z. one_if (is_filling l.cpu z))
        (sym (put2-same g.holder f.map f.element n d Free t.0 t.1))))
        (λ (ne : n ≡ f.map → d ≢ f.element).
        let q : times_fresh n d (f ∷ rest) ≡ one_if (is_filling l.cpu (g.holder n d)) = ap (times_fresh n d) (sym mine) ∙ r.owned.fresh_is
        l.cpu n d inside l2 in
        let none : one_if ((f.map == n) && (f.element == d)) ≡ 0 = differ n d ne in
        let new : one_if (is_filling l.cpu (holder2 n d)) ≡ one_if (is_filling l.cpu (g.holder n d)) = ap (λ z. one_if (is_filling l.cpu z))
        (put2-other g.holder f.map f.element n d Free ne) in
        omega arith)
        (here_or f.map n f.element d)
      where
        and_false : (z : Bool) → z && false ≡ false
        and_false true = refl
        and_false false = refl

        differ : (n d : ℕ) → (n ≡ f.map → d ≢ f.element) → one_if ((f.map == n) && (f.element == d)) ≡ 0
        differ n d ne = ap one_if (⊎_elim
            (λ (t : n ≡ f.map). ap (λ (z : Bool). (f.map == n) && z) (ne_eqb f.element d (λ (q : f.element ≡ d). ne t (sym q))) ∙ and_false (f.map == n))
            (λ (nd : n ≢ f.map). ap (λ (z : Bool). z && (f.element == d)) (ne_eqb f.map n (λ (q : f.map ≡ n). nd (sym q))))
            (cases_eq n f.map))
