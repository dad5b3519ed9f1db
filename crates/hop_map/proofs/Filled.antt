-- A new element that is filled, and what becomes of it.
use Rattle.std.proofs.Common.{◌≡◌, eq-eqb, ◌==◌, ◌++◌, ◌+◌, ◌≢◌, ℕ, zero, suc, ◌<◌, ◌≤◌, true, List, [], ◌∷◌, length, slice_index}
use Rattle.std.proofs.Common.{length-set, get_or-set_other, ⊎_elim, refl, ap, sym, subst, ◌∙◌, arith}
use Rattle.std.proofs.lemmas.List.{get_or_append_left}
use Rattle.std.proofs.Math.Seq.{get_or-append_seam}
use Rattle.std.proofs.lemmas.Bool.{cases_eq}
use Rattle.bpf_shared.specs.Shape.{elements}
use Rattle.bpf_shared.specs.History.{events_of, entry}
use Rattle.bpf_shared.proofs.Chains.{events_of-append, events_of-own}
use Rattle.bpf_shared.specs.declared.events.Entry.{Entry}
use Rattle.bpf_shared.specs.declared.events.Event.{Event}
use Rattle.bpf_shared.specs.declared.events.Event.TheVariants.{Update}
use Rattle.bpf_shared.specs.declared.events.MapAnswer.{MapAnswer}
use Rattle.bpf_shared.specs.declared.events.MapAnswer.TheVariants.{Done}
use Rattle.hop_layout.specs.declared.about.About.{About}
use Rattle.hop_words.specs.declared.known.Known.{Known}
use Rattle.hop_words.specs.declared.known.Fresh.{Fresh}
use Rattle.hop_words.specs.declared.known.Limbo.{Limbo}
use Rattle.hop_words.specs.declared.known.Sight.{Sight}
use Rattle.hop_words.specs.Sights.{sighted}
use Rattle.hop_layout.specs.Layout.{words_for}
use Rattle.hop_layout.specs.Words.{word_of, AreBytes}
use Rattle.hop_words.specs.Ghost.{shape_at, limbo_at, no_limbo}
use Rattle.hop_words.specs.Content.{one_if}
use Rattle.hop_words.specs.Shortage.{updates_of}
use Rattle.hop_words.specs.Kinds.{TakesEffect, retiring, with_gone}
use Rattle.hop_words.proofs.Shortages.{updates_of-append}
use Rattle.bpf_shared.specs.Own.{in_run}
use Rattle.hop_words.specs.Owning.{tail_of, IsInHand, IsUpdateAnswered, update_in_hand}
use Rattle.hop_arena.specs.Filling.{with_words, word_list}
use Rattle.hop_arena.proofs.Filling.{word_count}
use Rattle.hop_epoch.proofs.Batching.{at_set}
use Rattle.hop_map.specs.Private.UnderLock.{IsInsertion}
use Rattle.hop_map.specs.Private.Replacing.{IsReplacement}
use Rattle.hop_map.specs.Private.Locks.{locked_with, Readies}
use Rattle.hop_map.specs.Private.Updates.{Refusal}
use Rattle.hop_map.specs.Call.{IsOneCall}
use Rattle.hop_map.specs.Private.Call.{HoldsNew}
use Rattle.hop_map.proofs.Wholes.{saw_as}

pub words_at : (n : ℕ) (bs : List ℕ) (i : ℕ) → i < n → slice_index (word_list n bs) i ≡ word_of bs i
words_at zero bs i less = absurd (omega arith)
words_at (suc n) bs i less = ⊎_elim
    (λ (t : i ≡ n). subst (λ (k : ℕ). slice_index (word_list (suc n) bs) k ≡ word_of bs k) (sym t)
    (ap (slice_index (word_list (suc n) bs)) (sym (word_count n bs)) ∙ get_or-append_seam (word_list n bs) (word_of bs n) [] 0))
    (λ (ne : i ≢ n). get_or_append_left (word_list n bs) (word_of bs n ∷ []) 0 i (let c = word_count n bs in omega arith) ∙ words_at n bs i (omega arith))
    (cases_eq i n)

-- an update that took effect is one more of the CPU's
one_more : {a : About} (m : ℕ) (l : Known) (key bytes : List ℕ) (flags : ℕ) (r : MapAnswer) (seen : List Entry) → TakesEffect a l
    (Update m key bytes flags r) seen → updates_of m (events_of l.cpu l.seen) < updates_of m (events_of l.cpu seen)
one_more m l key bytes flags r seen t =
    let ev = Update m key bytes flags r in
    let own : events_of l.cpu seen ≡ events_of l.cpu l.seen ++ ev ∷ [] = ap (events_of l.cpu) t.after
    ∙ (events_of-append l.cpu l.seen (t.others ++ entry l.cpu ev ∷ []) ∙ ap (λ (es : List Event). events_of l.cpu l.seen ++ es)
    (events_of-append l.cpu t.others (entry l.cpu ev ∷ []) ∙ (λ j. t.foreign j ++ events_of-own l.cpu ev j))) in
    let n : updates_of m (events_of l.cpu seen) ≡ updates_of m (events_of l.cpu l.seen) + updates_of m (ev ∷ []) = ap (updates_of m) own ∙
    updates_of-append m (events_of l.cpu l.seen) (ev ∷ []) in
    let one : one_if (m == m) ≡ 1 = ap one_if (eq-eqb m m refl) in
    omega arith

module _ (a : About) (l : Known) (m e : ℕ) (new : HoldsNew l m e) (key bytes : List ℕ) (l1 : Known)
    (filled : l1 ≡ record l { fresh = with_words l.fresh (word_list (words_for (length key)) key) (word_list (words_for (length bytes)) bytes) }) where
  abbrev whole : Fresh
  whole = record {
    map = m;
    element = e;
    update = updates_of m (events_of l.cpu l.seen);
    key = word_list (words_for (length key)) key;
    value
        = word_list (words_for (length bytes)) bytes;
  }

  pub filled_is : l1 ≡ record l { fresh = whole ∷ [] }
  filled_is = filled ∙ ap (λ (fs : List Fresh). record l {
    fresh = with_words fs (word_list (words_for (length key)) key)
        (word_list (words_for (length bytes)) bytes);
  }) new

  pub filled_readies : (flags : ℕ) → e < elements (shape_at a m) → length key ≡ (shape_at a m).key → length bytes ≡ (shape_at a m).value →
      AreBytes key → AreBytes bytes → flags ≤ 2
      → m < length l.limbo → in_run (events_of l.cpu l.seen) ≡ true → l.locks ≡ [] → Readies a l1 m key bytes flags e
  filled_readies flags inside ks vs kb vb few room runs idle = subst (λ (q : Known). Readies a q m key bytes flags e) (sym filled_is) (record {
    carries = record {
      in_hand = refl;
      map = refl;
      number = refl;
      inside = inside;
      size = ks;
      are_bytes = kb;
      filled = word_count (words_for (length key)) key ∙ ap words_for ks;
      spelled = λ i less. words_at (words_for (length key)) key i (subst (λ (n : ℕ). i < words_for n) (sym ks) less);
    };
    valued = record {
      filled = word_count (words_for (length bytes)) bytes ∙ ap words_for vs;
      value = λ i less. words_at (words_for (length bytes)) bytes i (subst (λ (n : ℕ). i < words_for n) (sym vs) less);
    };
    brought = record { key_size = ks; size = vs; are_bytes = vb; flags_known = few; limbo = room; runs = runs };
    idle = idle;
  })

  module _ (used : (limbo_at l.limbo m).used ≡ []) (room : m < length l.limbo) (flags : ℕ) (k : Sight) (l2 : Known) where
    pub added_called : IsInsertion a (locked_with l1 k) m key bytes flags l2 → IsOneCall a l m (Update m key bytes flags Done) l2
    added_called p = record {
      seen = saw_as a l (locked_with l1 k) (Update m key bytes flags Done) l2.seen (ap (λ (q : Known). q.cpu) filled_is)
          (ap (λ (q : Known). q.seen) filled_is) p.seen;
      rests = record {
        fresh = ap (λ (q : Known). q.fresh) p.after;
        locks = ap (λ (q : Known). q.locks) p.after;
        used = ap (λ (q : Known). (limbo_at q.limbo m).used) p.after ∙ (ap (λ (q : Known). (limbo_at q.limbo m).used) filled_is ∙ used);
      };
      cpu = ap (λ (q : Known). q.cpu) p.after ∙ ap (λ (q : Known). q.cpu) filled_is;
      size = ap (λ (q : Known). length q.limbo) p.after ∙ ap (λ (q : Known). length q.limbo) filled_is;
      others = λ n ne. ap (λ (q : Known). limbo_at q.limbo n) p.after ∙ ap (λ (q : Known). limbo_at q.limbo n) filled_is;
    }

    pub added_limbo : IsInsertion a (locked_with l1 k) m key bytes flags l2 → l2.limbo ≡ l.limbo
    added_limbo p = ap (λ (q : Known). q.limbo) p.after ∙ ap (λ (q : Known). q.limbo) filled_is

    module _ (r : MapAnswer) (p : Refusal a (locked_with l1 k) m key bytes flags r l2) where
      refused_fresh : l2.fresh ≡ whole ∷ []
      refused_fresh = ap (λ (q : Known). q.fresh) p.after ∙ ap (λ (q : Known). q.fresh) filled_is

      pub refused_hand : IsInHand l2 m e
      refused_hand = (whole, refused_fresh ∙ ap (λ (fs : List Fresh). whole ∷ fs) (sym (ap tail_of refused_fresh)), refl, refl)

      -- the update that took it is answered
      pub refused_answered : IsUpdateAnswered l2 m
      refused_answered =
          let s = saw_as a l (locked_with l1 k) (Update m key bytes flags r) l2.seen (ap (λ (q : Known). q.cpu) filled_is)
          (ap (λ (q : Known). q.seen) filled_is) p.seen in
          let same : l2.cpu ≡ l.cpu = ap (λ (q : Known). q.cpu) p.after ∙ ap (λ (q : Known). q.cpu) filled_is in
          subst (λ (fs : List Fresh). update_in_hand fs < updates_of m (events_of l2.cpu l2.seen)) (sym refused_fresh)
          (subst (λ (c : ℕ). updates_of m (events_of l.cpu l.seen) < updates_of m (events_of c l2.seen)) (sym same) (one_more m l key bytes flags r l2.seen s))

      pub refused_limbo : (l3 : Known) (j : Sight) → l3 ≡ sighted (record l2 { fresh = tail_of l2.fresh }) j → l3.limbo ≡ l.limbo
      refused_limbo l3 j given = ap (λ (q : Known). q.limbo) given ∙ (ap (λ (q : Known). q.limbo) p.after ∙ ap (λ (q : Known). q.limbo) filled_is)

      pub refused_called : (l3 : Known) (j : Sight) → l3 ≡ sighted (record l2 { fresh = tail_of l2.fresh }) j → IsOneCall a l m (Update m key bytes flags r) l3
      refused_called l3 j given = subst (IsOneCall a l m (Update m key bytes flags r)) (sym given) (record {
        seen = saw_as a l (locked_with l1 k) (Update m key bytes flags r) l2.seen (ap (λ (q : Known). q.cpu) filled_is)
            (ap (λ (q : Known). q.seen) filled_is) p.seen;
        rests = record {
          fresh = ap tail_of refused_fresh;
          locks = ap (λ (q : Known). q.locks) p.after;
          used = ap (λ (q : Known). (limbo_at q.limbo m).used) p.after ∙ (ap (λ (q : Known). (limbo_at q.limbo m).used) filled_is ∙ used);
        };
        cpu = ap (λ (q : Known). q.cpu) p.after ∙ ap (λ (q : Known). q.cpu) filled_is;
        size = ap (λ (q : Known). length q.limbo) p.after ∙ ap (λ (q : Known). length q.limbo) filled_is;
        others = λ n ne. ap (λ (q : Known). limbo_at q.limbo n) p.after ∙ ap (λ (q : Known). limbo_at q.limbo n) filled_is;
      })

    module _ (old : ℕ) (p : IsReplacement a (locked_with l1 k) m key bytes flags old l2) where
      pub over_limbo : l2.limbo ≡ with_gone l m old
      over_limbo = ap (λ (q : Known). q.limbo) p.after ∙ ap (λ (q : Known). with_gone q m old) filled_is

      over_used : (limbo_at l2.limbo m).used ≡ old ∷ []
      over_used = ap (λ (ls : List Limbo). (limbo_at ls m).used) over_limbo
          ∙ (ap (λ (z : Limbo). z.used) (at_set l m (record (limbo_at l.limbo m) { used = old ∷ (limbo_at l.limbo m).used }) room) ∙ ap
          (λ (us : List ℕ). old ∷ us) used)

      pub over_front : (limbo_at l2.limbo m).used ≡ old ∷ tail_of (limbo_at l2.limbo m).used
      over_front = over_used ∙ ap (λ (us : List ℕ). old ∷ us) (sym (ap tail_of over_used))

      size_is : length l2.limbo ≡ length l.limbo
      size_is = ap (λ (ls : List Limbo). length ls) over_limbo ∙ length-set l.limbo m (record (limbo_at l.limbo m) { used = old ∷ (limbo_at l.limbo m).used })

      pub over_called : (l3 : Known) → l3 ≡ retiring l2 m old (tail_of (limbo_at l2.limbo m).used) → IsOneCall a l m (Update m key bytes flags Done) l3
      over_called l3 retired =
          let x : Limbo = record (limbo_at l2.limbo m) { used = tail_of (limbo_at l2.limbo m).used; young = old ∷ (limbo_at l2.limbo m).young } in
          let room2 : m < length l2.limbo = subst (λ (i : ℕ). m < i) (sym size_is) room in
          subst (IsOneCall a l m (Update m key bytes flags Done)) (sym retired) (record {
            seen = saw_as a l (locked_with l1 k) (Update m key bytes flags Done) l2.seen (ap (λ (q : Known). q.cpu) filled_is)
                (ap (λ (q : Known). q.seen) filled_is) p.seen;
            rests = record {
              fresh = ap (λ (q : Known). q.fresh) p.after;
              locks = ap (λ (q : Known). q.locks) p.after;
              used = ap (λ (z : Limbo). z.used) (at_set l2 m x room2) ∙ ap tail_of over_used;
            };
            cpu = ap (λ (q : Known). q.cpu) p.after ∙ ap (λ (q : Known). q.cpu) filled_is;
            size = length-set l2.limbo m x ∙ size_is;
            others = λ n ne. get_or-set_other l2.limbo m n x no_limbo ne
                ∙ (ap (λ (ls : List Limbo). limbo_at ls n) over_limbo ∙ get_or-set_other l.limbo m n
                (record (limbo_at l.limbo m) { used = old ∷ (limbo_at l.limbo m).used }) no_limbo ne);
          })
