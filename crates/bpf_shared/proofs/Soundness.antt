-- Each store that a legal history leads to is sound.
use Rattle.std.proofs.Common.{◌≡◌, ◌≢◌, ℕ, ◌+◌, ◌-◌, ◌<◌, ◌≤◌, nat_lt, Bool, true, false, not, cond, ◌&&◌, ◌==◌, List, [], ◌∷◌, length}
use Rattle.std.proofs.Common.{Option, Some, None, is_some, ◌⊎◌, inl, inr, if◌then◌else◌, refl, sym, ap, subst, ◌∙◌, arith}
use Rattle.std.proofs.lemmas.Bool.Decides.{nat_tests}
use Rattle.std.proofs.lemmas.Cmp.{nat_list_cmp_total}
use Rattle.std.specs.FinMap.{get, insert, remove, len, contains_key, get-empty, len-empty, len-insert, len-remove}
use Rattle.std.specs.Ordering.{nat_cmp}
use Rattle.std.specs.Cmp.Lexicographic.{slice_cmp}
use Rattle.bpf_shared.specs.declared.events.Span.{Span}
use Rattle.bpf_shared.specs.declared.events.Event.{Event}
use Rattle.bpf_shared.specs.declared.events.Entry.{Entry}
use Rattle.bpf_shared.specs.declared.events.Event.TheVariants.{Begin, End, Lookup, Update, Delete, Keys, Load, Store, Atomic}
use Rattle.bpf_shared.specs.declared.events.MapAnswer.{MapAnswer}
use Rattle.bpf_shared.specs.declared.events.MapAnswer.TheVariants.{Done, Invalid, Busy, Exists, Absent, Full, NoMemory}
use Rattle.bpf_shared.specs.declared.shapes.MapShape.{MapShape}
use Rattle.bpf_shared.specs.First.{first_of}
use Rattle.bpf_shared.specs.Shape.{Shape, IsShape, IsMap, IsApart}
use Rattle.bpf_base.specs.Bytes.{low_bytes, with_part}
use Rattle.bpf_base.proofs.Numbers.{length-low_bytes}
use Rattle.bpf_base.proofs.Parts.{length-with_part}
use Rattle.bpf_shared.specs.Store.{KeyMap, Value, Plain, put, never, as_made, Finds, IsInMap, IsKept, IsLive, IsFixed, IsFrozen, fixed_count}
use Rattle.bpf_shared.specs.Events.{after_begin, after_end, after_lookup, has_key, refusals, kept_after, after_update, Updates}
use Rattle.bpf_shared.specs.Events.{after_delete, Deletes, Reaches, MayWrite, after_write, Allowed}
use Rattle.bpf_shared.specs.History.{Legal, PlainlyLegal}
use Rattle.bpf_shared.specs.Sound.{IsSoundStore}
use Rattle.bpf_shared.proofs.Fixed.{fixed_below, frozen_below, fixed_size, fixed_apart}
use Rattle.bpf_shared.proofs.Puts.{true_or_false, equal_or_not, put-same, put-other, put_cases, put_pair, insert_cases, remove_cases}

holder_runs : (s : Plain) → IsSoundStore s → (c v : ℕ) → s.held c v ≡ true → s.running c ≡ true
holder_runs s so c v h = elim (true_or_false (s.running c)) [ inl r ↦ r | inr r ↦ let k = (so.idle c r v).0 in cc ]

-- ---- as made
no_key : (h : Shape) (m v : ℕ) → IsInMap (as_made h) m v → ⊥
no_key h m v p = let k = sym (get-empty {X = ℕ} (slice_cmp nat_cmp) p.0) ∙ p.1 in cc

no_one : (h : Shape) (v : ℕ) → IsKept (as_made h) v → ⊥
no_one h v k = let e : false ≡ true = k.1 in cc

fixed_alone : (h : Shape) (v : ℕ) → IsLive (as_made h) v → IsFixed h v
fixed_alone h v (inl p) = absurd (no_key h p.0 v p.1)
fixed_alone h v (inr (inl p)) = absurd (let e : false ≡ true = p.1 in cc)
fixed_alone h v (inr (inr f)) = f

pub as_made_sound : (h : Shape) → IsShape h → IsSoundStore (as_made h)
as_made_sound h is = record {
  fixed = record {
    shape = is;
    made = omega arith;
    in_map = λ m v p. absurd (no_key h m v p);
    kept = λ v k. absurd (no_one h v k);
    spans = λ v f. refl;
    frozen = λ v f. refl;
  };
  held = λ c v e. cc;
  idle = λ c r v. (refl, refl);
  keys = λ m h is. (let e = len-empty (slice_cmp nat_cmp) ℕ in omega arith);
  live_made = λ v l. fixed_below h v (fixed_alone h v l);
  sizes = λ v l. fixed_size h v;
  kept_made = λ v k. absurd (no_one h v k);
  apart = λ v w p q ne. fixed_apart h is v w (fixed_alone h v p) (fixed_alone h w q) ne;
}

-- ---- begin and end
-- what is held or kept by none more, since this CPU's are gone
still : (f : ℕ → ℕ → Bool) (c d v : ℕ) → put f c never d v ≡ true → (d ≢ c) × (f d v ≡ true)
still f c d v h = elim (put_cases f c d never) [
  | inl k ↦ absurd (let e : false ≡ true = sym (ap (λ (g : ℕ → Bool). g v) k.1) ∙ h in cc)
  | inr k ↦ (k.0, sym (ap (λ (g : ℕ → Bool). g v) k.1) ∙ h)
]

others : (f : ℕ → ℕ → Bool) (c d v : ℕ) → d ≢ c → f d v ≡ true → put f c never d v ≡ true
others f c d v ne h = ap (λ (g : ℕ → Bool). g v) (put-other f c d never ne) ∙ h

none_more : (f : ℕ → ℕ → Bool) (c d v : ℕ) → f d v ≡ false → put f c never d v ≡ false
none_more f c d v h = elim (put_cases f c d never) [ inl k ↦ ap (λ (g : ℕ → Bool). g v) k.1 | inr k ↦ ap (λ (g : ℕ → Bool). g v) k.1 ∙ h ]

none_of : (f : ℕ → ℕ → Bool) (c v : ℕ) → put f c never c v ≡ false
none_of f c v = ap (λ (g : ℕ → Bool). g v) (put-same f c c never refl)

after_begin_live : (s : Plain) (c v : ℕ) → IsLive (after_begin s c) v → IsLive s v
after_begin_live s c v (inl p) = inl p
after_begin_live s c v (inr (inl p)) = inr (inl (p.0, (still s.held c p.0 v p.1).1))
after_begin_live s c v (inr (inr f)) = inr (inr f)

pub after_begin_sound : (s : Plain) (c : ℕ) → IsSoundStore s → IsSoundStore (after_begin s c)
after_begin_sound s c so = record {
  fixed = record {
    shape = so.fixed.shape;
    made = so.fixed.made;
    in_map = so.fixed.in_map;
    kept = so.fixed.kept;
    spans = so.fixed.spans;
    frozen = so.fixed.frozen;
  };
  held = λ d v h. so.held d v (still s.held c d v h).1;
  idle = λ d r v. elim (put_cases s.running c d true) [
    | inl k ↦ absurd (let e : true ≡ false = sym k.1 ∙ r in cc)
    | inr k ↦ (let was = so.idle d (sym k.1 ∙ r) v in (none_more s.held c d v was.0, was.1))
  ];
  keys = so.keys;
  sizes = so.sizes;
  live_made = λ v l. so.live_made v (after_begin_live s c v l);
  kept_made = so.kept_made;
  apart = λ v w p q. so.apart v w (after_begin_live s c v p) (after_begin_live s c w q);
}

after_end_live : (s : Plain) (c v : ℕ) → IsLive (after_end s c) v → IsLive s v
after_end_live s c v (inl p) = inl p
after_end_live s c v (inr (inl p)) = inr (inl (p.0, (still s.held c p.0 v p.1).1))
after_end_live s c v (inr (inr f)) = inr (inr f)

pub after_end_sound : (s : Plain) (c : ℕ) → IsSoundStore s → IsSoundStore (after_end s c)
after_end_sound s c so = record {
  fixed = record {
    shape = so.fixed.shape;
    made = so.fixed.made;
    in_map = so.fixed.in_map;
    kept = λ v k. so.fixed.kept v (k.0, (still s.kept c k.0 v k.1).1);
    spans = so.fixed.spans;
    frozen = so.fixed.frozen;
  };
  held = λ d v h. (let was = still s.held c d v h in elim (so.held d v was.1) [ inl p ↦ inl p | inr k ↦ inr (others s.kept c d v was.0 k) ]);
  idle = λ d r v. elim (put_cases s.running c d false) [
    | inl k ↦ (
      ap (λ (x : ℕ). put s.held c never x v) k.0 ∙ none_of s.held c v,
      ap (λ (x : ℕ). put s.kept c never x v) k.0 ∙ none_of s.kept c v,
    )
    | inr k ↦ (let was = so.idle d (sym k.1 ∙ r) v in (none_more s.held c d v was.0, none_more s.kept c d v was.1))
  ];
  keys = so.keys;
  sizes = so.sizes;
  live_made = λ v l. so.live_made v (after_end_live s c v l);
  kept_made = λ v k. so.kept_made v (k.0, (still s.kept c k.0 v k.1).1);
  apart = λ v w p q. so.apart v w (after_end_live s c v p) (after_end_live s c w q);
}

-- ---- lookups
looked_live : (s : Plain) (c m v : ℕ) → IsInMap s m v → (w : ℕ) → IsLive (after_lookup s c (Some v)) w → IsLive s w
looked_live s c m v i w (inl p) = inl p
looked_live s c m v i w (inr (inl p)) = elim (put_pair s.held c v p.0 w p.1) [ inl e ↦ inl (m, subst (IsInMap s m) (sym e.1) i) | inr h ↦ inr (inl (p.0, h)) ]
looked_live s c m v i w (inr (inr f)) = inr (inr f)

looked_sound : (s : Plain) (c m v : ℕ) → IsInMap s m v → s.running c ≡ true → IsSoundStore s → IsSoundStore (after_lookup s c (Some v))
looked_sound s c m v i r so = record {
  fixed = record {
    shape = so.fixed.shape;
    made = so.fixed.made;
    in_map = so.fixed.in_map;
    kept = so.fixed.kept;
    spans = so.fixed.spans;
    frozen = so.fixed.frozen;
  };
  held = λ d w h. elim (put_pair s.held c v d w h) [ inl e ↦ inl (m, subst (IsInMap s m) (sym e.1) i) | inr k ↦ so.held d w k ];
  idle = λ d h w. (
    let ne : d ≢ c = λ e. (let k : s.running d ≡ true = ap s.running e ∙ r in cc) in
        ap (λ (f : ℕ → Bool). f w) (put-other s.held c d (put (s.held c) v true) ne) ∙ (so.idle d h w).0,
    (so.idle d h w).1,
  );
  keys = so.keys;
  sizes = so.sizes;
  live_made = λ w l. so.live_made w (looked_live s c m v i w l);
  kept_made = so.kept_made;
  apart = λ x y p q. so.apart x y (looked_live s c m v i x p) (looked_live s c m v i y q);
}

pub after_lookup_sound : (s : Plain) (c m : ℕ) (key : List ℕ) (o : Option ℕ) → get (s.maps m) key ≡ o → s.running c ≡ true → IsSoundStore s
    → IsSoundStore (after_lookup s c o)
after_lookup_sound s c m key None e r so = so
after_lookup_sound s c m key (Some v) e r so = looked_sound s c m v (key, e) r so

-- ---- what is kept once a value left its map
pub kept_still : (s : Plain) (o : Option ℕ) (c w : ℕ) → s.kept c w ≡ true → kept_after s o c w ≡ true
kept_still s None c w h = h
kept_still s (Some v) c w h = go (s.running c)
  where
    go : (r : Bool) → (if r then put (s.kept c) v true else s.kept c) w ≡ true
    go true = elim (put_cases (s.kept c) v w true) [ inl k ↦ k.1 | inr k ↦ k.1 ∙ h ]
    go false = h

pub kept_now : (s : Plain) (o : Option ℕ) (c v : ℕ) → o ≡ Some v → s.running c ≡ true → kept_after s o c v ≡ true
kept_now s o c v e r =
    ap (λ (p : Option ℕ). kept_after s p c v) e
    ∙ (ap (λ (b : Bool). (if b then put (s.kept c) v true else s.kept c) v) r ∙ put-same (s.kept c) v v true refl)

kept_idle : (s : Plain) (o : Option ℕ) (c w : ℕ) → s.running c ≡ false → s.kept c w ≡ false → kept_after s o c w ≡ false
kept_idle s None c w r h = h
kept_idle s (Some v) c w r h = ap (λ (b : Bool). (if b then put (s.kept c) v true else s.kept c) w) r ∙ h

pub kept_from : (s : Plain) (o : Option ℕ) (c w : ℕ) → kept_after s o c w ≡ true → (o ≡ Some w) ⊎ (s.kept c w ≡ true)
kept_from s None c w h = inr h
kept_from s (Some v) c w h = go (s.running c) h
  where
    go : (r : Bool) → (if r then put (s.kept c) v true else s.kept c) w ≡ true → (Some v ≡ Some w) ⊎ (s.kept c w ≡ true)
    go true k = elim (put_cases (s.kept c) v w true) [ inl e ↦ inl (ap (λ (x : ℕ). Some x) (sym e.0)) | inr e ↦ inr (sym e.1 ∙ k) ]
    go false k = inr k

-- ---- a map changed at one key
module _ (s : Plain) (m : ℕ) (key : List ℕ) (new : KeyMap) where
  -- a value stays in its map, or it is the one that left
  stays : ((q : List ℕ) → (q ≡ key) ⊎ (get new q ≡ get (s.maps m) q)) → (d : ℕ) (q : List ℕ) (v : ℕ) → Finds s d q v →
      (get (put s.maps m new d) q ≡ Some v) ⊎ (get (s.maps m) key ≡ Some v)
  stays same d q v h = elim (put_cases s.maps m d new) [
    | inr k ↦ inl (ap (λ (x : KeyMap). get x q) k.1 ∙ h)
    | inl k ↦
        let there : get (s.maps m) q ≡ Some v = ap (λ (x : ℕ). get (s.maps x) q) (sym k.0) ∙ h in
        elim (same q) [
          | inl e ↦ inr (ap (get (s.maps m)) (sym e) ∙ there)
          | inr e ↦ inl (ap (λ (x : KeyMap). get x q) k.1 ∙ (e ∙ there))
        ]
  ]

  -- and a value that is in it was there, or is what the key leads to now
  was : (o : Option ℕ) → ((q : List ℕ) → (get new q ≡ o) ⊎ (get new q ≡ get (s.maps m) q)) → (d : ℕ) (q : List ℕ) (v : ℕ) → get
      (put s.maps m new d) q ≡ Some v → (o ≡ Some v) ⊎ Finds s d q v
  was o same d q v h = elim (put_cases s.maps m d new) [
    | inr k ↦ inr (sym (ap (λ (x : KeyMap). get x q) k.1) ∙ h)
    | inl k ↦
        let there : get new q ≡ Some v = sym (ap (λ (x : KeyMap). get x q) k.1) ∙ h in
        elim (same q) [
          | inl e ↦ inl (sym e ∙ there)
          | inr e ↦ inr (ap (λ (x : ℕ). get (s.maps x) q) k.0 ∙ (sym e ∙ there))
        ]
  ]

module _ (s : Plain) (m : ℕ) (key : List ℕ) (so : IsSoundStore s) where
  gone_made : (w : ℕ) → get (s.maps m) key ≡ Some w → w < s.made
  gone_made w e = so.live_made w (inl (m, (key, e)))

  keeps_made : (w : ℕ) → (c : ℕ) × (kept_after s (get (s.maps m) key) c w ≡ true) → w < s.made
  keeps_made w k = elim (kept_from s (get (s.maps m) key) k.0 w k.1) [ inl e ↦ gone_made w e | inr e ↦ so.kept_made w (k.0, e) ]

  after_delete_was : (d w : ℕ) → IsInMap (after_delete s m key) d w → IsInMap s d w
  after_delete_was d w p =
      (p.0, elim (was s m key (remove (s.maps m) key) None (λ q. elim (remove_cases (s.maps m) key q) [ inl e ↦ inl e.1 | inr e ↦ inr e ]) d p.0 w p.1) [ inl e ↦ cc | inr h ↦ h ])

  after_delete_live : (w : ℕ) → IsLive (after_delete s m key) w → IsLive s w
  after_delete_live w (inl p) = inl (p.0, after_delete_was p.0 w p.1)
  after_delete_live w (inr p) = inr p

  fewer : (h : MapShape) → IsMap s.shape.maps m h → len (remove (s.maps m) key) ≤ h.max
  fewer h is = go (contains_key (s.maps m) key) (len-remove nat_list_cmp_total (s.maps m) key) (so.keys m h is)
    where
      go : (b : Bool) → len (remove (s.maps m) key) ≡ cond b (len (s.maps m) - 1) (len (s.maps m)) → len (s.maps m) ≤ h.max → len
          (remove (s.maps m) key) ≤ h.max
      go true e l = omega arith
      go false e l = omega arith

  -- what is kept was in a map, or kept before
  keeps_later : (w : ℕ) → (c : ℕ) × (kept_after s (get (s.maps m) key) c w ≡ true) → fixed_count s.shape ≤ w
  keeps_later w k = elim (kept_from s (get (s.maps m) key) k.0 w k.1) [ inl e ↦ so.fixed.in_map m w (key, e) | inr e ↦ so.fixed.kept w (k.0, e) ]

  pub after_delete_sound : IsSoundStore (after_delete s m key)
  after_delete_sound = record {
    fixed = record {
      shape = so.fixed.shape;
      made = so.fixed.made;
      in_map = λ d w p. so.fixed.in_map d w (after_delete_was d w p);
      kept = keeps_later;
      spans = so.fixed.spans;
      frozen = so.fixed.frozen;
    };
    held = λ c w h. elim (so.held c w h) [
      | inr k ↦ inr (kept_still s (get (s.maps m) key) c w k)
      | inl p ↦ elim (stays s m key (remove (s.maps m) key) (λ q. elim (remove_cases (s.maps m) key q) [ inl e ↦ inl e.0 | inr e ↦ inr e ]) p.0 p.1.0 w p.1.1) [
        | inl l ↦ inl (p.0, (p.1.0, l))
        | inr e ↦ inr (kept_now s (get (s.maps m) key) c w e (holder_runs s so c w h))
      ]
    ];
    idle = λ c r w. ((so.idle c r w).0, kept_idle s (get (s.maps m) key) c w r (so.idle c r w).1);
    keys = λ d h is. elim (put_cases s.maps m d (remove (s.maps m) key)) [
      | inl k ↦ subst (λ (x : KeyMap). len x ≤ h.max) (sym k.1) (fewer h (subst (λ (x : ℕ). IsMap s.shape.maps x h) k.0 is))
      | inr k ↦ subst (λ (x : KeyMap). len x ≤ h.max) (sym k.1) (so.keys d h is)
    ];
    sizes = so.sizes;
    live_made = λ w l. so.live_made w (after_delete_live w l);
    kept_made = keeps_made;
    apart = λ v w p q. so.apart v w (after_delete_live v p) (after_delete_live w q);
  }

  module _ (x : Value) where
    after_update_was : (d w : ℕ) → IsInMap (after_update s m key x) d w → (w ≡ s.made) ⊎ IsInMap s d w
    after_update_was d w p =
        elim (was s m key (insert (s.maps m) key s.made) (Some s.made)
        (λ q. elim (insert_cases (s.maps m) key s.made q) [ inl e ↦ inl e.1 | inr e ↦ inr e ]) d p.0 w p.1)
        [ inl e ↦ inl (let k : Some s.made ≡ Some w = e in cc) | inr h ↦ inr (p.0, h) ]

    after_update_live : (w : ℕ) → IsLive (after_update s m key x) w → (w ≡ s.made) ⊎ IsLive s w
    after_update_live w (inl p) = elim (after_update_was p.0 w p.1) [ inl e ↦ inl e | inr h ↦ inr (inl (p.0, h)) ]
    after_update_live w (inr p) = inr (inr p)

    old_value : (w : ℕ) → IsLive s w → put s.value s.made x w ≡ s.value w
    old_value w l = put-other s.value s.made w x (λ e. let k = so.live_made w l in omega arith)

    first_value : (w : ℕ) → w < fixed_count s.shape → put s.value s.made x w ≡ s.value w
    first_value w l = put-other s.value s.made w x (λ e. let k = so.fixed.made in omega arith)

    back : (p q : Span) → IsApart p q → IsApart q p
    back p q h = λ a i j. h a j i

    -- there is room for the key, if it is new
    more : (h : MapShape) → (is_some (get (s.maps m) key) ≡ false → len (s.maps m) < h.max) → len (s.maps m) ≤ h.max → len
        (insert (s.maps m) key s.made) ≤ h.max
    more h room l = go (is_some (get (s.maps m) key)) refl (len-insert nat_list_cmp_total (s.maps m) key s.made)
      where
        go : (b : Bool) → is_some (get (s.maps m) key) ≡ b → len (insert (s.maps m) key s.made) ≡ cond b (len (s.maps m))
            (len (s.maps m) + 1) → len (insert (s.maps m) key s.made) ≤ h.max
        go true t e = omega arith
        go false t e = let k = room t in omega arith

    pub after_update_sound : ((v : ℕ) → IsLive s v → IsApart x.span (s.value v).span) → length x.bytes ≡ x.span.size →
        ((h : MapShape) → IsMap s.shape.maps m h → is_some (get (s.maps m) key) ≡ false → len (s.maps m) < h.max) → IsSoundStore
        (after_update s m key x)
    after_update_sound free size room = record {
      fixed = record {
        shape = so.fixed.shape;
        made = (let l = so.fixed.made in omega arith);
        in_map = λ d w p. elim (after_update_was d w p) [ inl e ↦ (let l = so.fixed.made in omega arith) | inr h ↦ so.fixed.in_map d w h ];
        kept = keeps_later;
        spans = λ w f. ap (λ (y : Value). y.span) (first_value w (fixed_below s.shape w f)) ∙ so.fixed.spans w f;
        frozen = λ w f. first_value w (frozen_below s.shape w f) ∙ so.fixed.frozen w f;
      };
      keys = λ d h is. elim (put_cases s.maps m d (insert (s.maps m) key s.made)) [
        | inl k ↦ (let here = subst (λ (z : ℕ). IsMap s.shape.maps z h) k.0 is in subst (λ (z : KeyMap). len z ≤ h.max) (sym k.1)
            (more h (room h here) (so.keys m h here)))
        | inr k ↦ subst (λ (z : KeyMap). len z ≤ h.max) (sym k.1) (so.keys d h is)
      ];
      sizes = λ v l. elim (put_cases s.value s.made v x) [
        | inl k ↦ subst (λ (y : Value). length y.bytes ≡ y.span.size) (sym k.1) size
        | inr k ↦ subst (λ (y : Value). length y.bytes ≡ y.span.size) (sym k.1) (so.sizes v (let ne = k.0 in omega arith))
      ];
      held = λ c w h. elim (so.held c w h) [
        | inr k ↦ inr (kept_still s (get (s.maps m) key) c w k)
        | inl p ↦ elim (stays s m key (insert (s.maps m) key s.made) (λ q. elim (insert_cases (s.maps m) key s.made q) [ inl e ↦ inl e.0 | inr e ↦ inr e ]) p.0 p.1.0 w p.1.1) [
          | inl l ↦ inl (p.0, (p.1.0, l))
          | inr e ↦ inr (kept_now s (get (s.maps m) key) c w e (holder_runs s so c w h))
        ]
      ];
      idle = λ c r w. ((so.idle c r w).0, kept_idle s (get (s.maps m) key) c w r (so.idle c r w).1);
      live_made = λ w l. elim (after_update_live w l) [ inl e ↦ omega arith | inr k ↦ (let b = so.live_made w k in omega arith) ];
      kept_made = λ w k. (let b = keeps_made w k in omega arith);
      apart = λ v w p q ne. elim (after_update_live v p) [
        | inl e ↦ elim (after_update_live w q) [
          | inl f ↦ absurd (ne (e ∙ sym f))
          | inr l ↦ subst (λ (y : Value). IsApart y.span (put s.value s.made x w).span) (sym (put-same s.value s.made v x e))
              (subst (λ (y : Value). IsApart x.span y.span) (sym (old_value w l)) (free w l))
        ]
        | inr l ↦ elim (after_update_live w q) [
          | inl f ↦ subst (λ (y : Value). IsApart (put s.value s.made x v).span y.span) (sym (put-same s.value s.made w x f))
              (subst (λ (y : Value). IsApart y.span x.span) (sym (old_value v l)) (back x.span (s.value v).span (free v l)))
          | inr k ↦ subst (λ (y : Value). IsApart y.span (put s.value s.made x w).span) (sym (old_value v l))
              (subst (λ (y : Value). IsApart (s.value v).span y.span) (sym (old_value w k)) (so.apart v w l k ne))
        ]
      ];
    }

-- ---- writes
pub span-after_write : (s : Plain) (v a n x w : ℕ) → ((after_write s v a n x).value w).span ≡ (s.value w).span
span-after_write s v a n x w = go (equal_or_not w v)
  where
    go : (w ≡ v) ⊎ (w ≢ v) → ((after_write s v a n x).value w).span ≡ (s.value w).span
    go (inl e) = ap (λ (y : Value). y.span) (put-same s.value v w _ e) ∙ ap (λ (k : ℕ). (s.value k).span) (sym e)
    go (inr ne) = ap (λ (y : Value). y.span) (put-other s.value v w _ ne)

-- what is held was made after the fixed values
pub held_later : (s : Plain) → IsSoundStore s → (c v : ℕ) → s.held c v ≡ true → fixed_count s.shape ≤ v
held_later s so c v h = elim (so.held c v h) [ inl p ↦ so.fixed.in_map p.0 v p.1 | inr k ↦ so.fixed.kept v (c, k) ]

-- so it may be written
pub held_writable : (s : Plain) → IsSoundStore s → (c v : ℕ) → s.held c v ≡ true → IsFrozen s.shape v → ⊥
held_writable s so c v h f = let later = held_later s so c v h in let below = frozen_below s.shape v f in absurd (omega arith)

pub reached_live : (s : Plain) (c v a n : ℕ) → Reaches s c v a n → IsLive s v
reached_live s c v a n r = go r.holds
  where
    go : (s.held c v ≡ true) ⊎ IsFixed s.shape v → IsLive s v
    go (inl h) = inr (inl (c, h))
    go (inr f) = inr (inr f)

length-after_write : (s : Plain) (v a n x : ℕ) → IsSoundStore s → (c : ℕ) → Reaches s c v a n → length
    (with_part (s.value v).bytes (a - (s.value v).span.at) (low_bytes n x)) ≡ (s.value v).span.size
length-after_write s v a n x so c r =
    let size : length (s.value v).bytes ≡ (s.value v).span.size = so.sizes v (so.live_made v (reached_live s c v a n r)) in
    let low : length (low_bytes n x) ≡ n = length-low_bytes n x in
    let from : (s.value v).span.at ≤ a = r.covers.0 in
    let to : a + n ≤ (s.value v).span.at + (s.value v).span.size = r.covers.1 in
    length-with_part (s.value v).bytes (a - (s.value v).span.at) (low_bytes n x) (omega arith) ∙ size

pub after_write_sound : (s : Plain) (c v a n x : ℕ) → IsSoundStore s → MayWrite s c v a n → IsSoundStore (after_write s v a n x)
after_write_sound s c v a n x so r = record {
  fixed = record {
    shape = so.fixed.shape;
    made = so.fixed.made;
    in_map = so.fixed.in_map;
    kept = so.fixed.kept;
    spans = λ w f. span-after_write s v a n x w ∙ so.fixed.spans w f;
    frozen = λ w f. put-other s.value v w _ (λ e. r.writable (subst (IsFrozen s.shape) e f)) ∙ so.fixed.frozen w f;
  };
  held = so.held;
  idle = so.idle;
  keys = so.keys;
  sizes = λ w l. elim (put_cases s.value v w (record (s.value v) { bytes = with_part (s.value v).bytes (a - (s.value v).span.at) (low_bytes n x) })) [
    | inl k ↦ subst (λ (y : Value). length y.bytes ≡ y.span.size) (sym k.1) (length-after_write s v a n x so c r.reaches)
    | inr k ↦ subst (λ (y : Value). length y.bytes ≡ y.span.size) (sym k.1) (so.sizes w l)
  ];
  live_made = so.live_made;
  kept_made = so.kept_made;
  apart = λ u w p q ne. subst (λ (y : Span). IsApart y ((after_write s v a n x).value w).span) (sym (span-after_write s v a n x u))
      (subst (λ (y : Span). IsApart (s.value u).span y) (sym (span-after_write s v a n x w)) (so.apart u w p q ne));
}

-- ---- all events
-- a new key that no test refuses finds room
four_false : (a b c d : Bool) → first_of ((Invalid, a) ∷ (Exists, b) ∷ (Absent, c) ∷ (Full, d) ∷ []) ≡ None → d ≡ false
four_false true b c d e = cc
four_false false true c d e = cc
four_false false false true d e = cc
four_false false false false true e = cc
four_false false false false false e = refl

not_full : (s : Plain) (m : ℕ) (h : MapShape) (key : List ℕ) (flags : ℕ) → first_of (refusals s m h key flags) ≡ None → len (s.maps m) ≤
    h.max → has_key s m key ≡ false → len (s.maps m) < h.max
not_full s m h key flags e l new =
    let last = four_false (nat_lt 2 flags) ((flags == 1) && has_key s m key) ((flags == 2) && not (has_key s m key))
    (not (has_key s m key) && (len (s.maps m) == h.max)) e in
    let apart : (len (s.maps m) == h.max) ≡ false = sym (ap (λ (b : Bool). not b && (len (s.maps m) == h.max)) new) ∙ last in
    grind (arith, nat_tests)

updates_sound : (s t : Plain) (m : ℕ) (h : MapShape) (key bytes : List ℕ) (flags : ℕ) (answer : MapAnswer) → IsSoundStore s → IsMap
    s.shape.maps m h → length bytes ≡ h.value → Updates s m h key bytes flags answer t → IsSoundStore t
updates_sound s t m h key bytes flags Done so is size u =
    subst IsSoundStore (sym u.1.2) (after_update_sound s m key so (record { bytes = bytes; span = u.1.0 }) u.1.1.apart
    (size ∙ sym (ap (λ (q : Span). q.size) u.1.1.element.2))
    (λ g here new. let same : g ≡ h = (let k : Some g ≡ Some h = sym here ∙ is in cc) in subst (λ (z : MapShape). len (s.maps m) < z.max)
    (sym same) (not_full s m h key flags u.0 (so.keys m h is) new)))
updates_sound s t m h key bytes flags Invalid so is size u = subst IsSoundStore (sym u.1) so
updates_sound s t m h key bytes flags Busy so is size u = subst IsSoundStore (sym u.1) so
updates_sound s t m h key bytes flags Exists so is size u = subst IsSoundStore (sym u.1) so
updates_sound s t m h key bytes flags Absent so is size u = subst IsSoundStore (sym u.1) so
updates_sound s t m h key bytes flags Full so is size u = subst IsSoundStore (sym u.1) so
updates_sound s t m h key bytes flags NoMemory so is size u = subst IsSoundStore (sym u.1) so

deletes_sound : (s t : Plain) (m : ℕ) (key : List ℕ) (answer : MapAnswer) → IsSoundStore s → Deletes s m key answer t → IsSoundStore t
deletes_sound s t m key Done so u = subst IsSoundStore (sym u.1) (after_delete_sound s m key so)
deletes_sound s t m key Busy so u = subst IsSoundStore (sym u) so
deletes_sound s t m key Absent so u = subst IsSoundStore (sym u.1) so
deletes_sound s t m key Invalid so u = absurd u
deletes_sound s t m key Exists so u = absurd u
deletes_sound s t m key Full so u = absurd u
deletes_sound s t m key NoMemory so u = absurd u

pub allowed_sound : (s t : Plain) (c : ℕ) (e : Event) → IsSoundStore s → Allowed s c e t → IsSoundStore t
allowed_sound s t c Begin so a = subst IsSoundStore (sym a.2) (after_begin_sound s c so)
allowed_sound s t c End so a = subst IsSoundStore (sym a.1) (after_end_sound s c so)
allowed_sound s t c (Lookup m key found) so a = subst IsSoundStore (sym a.1.2) (after_lookup_sound s c m key (get (s.maps m) key) refl a.0 so)
allowed_sound s t c (Update m key bytes flags answer) so a = updates_sound s t m a.1.0 key bytes flags answer so a.1.1 a.1.3 a.1.4
allowed_sound s t c (Delete m key answer) so a = deletes_sound s t m key answer so a.1.1
allowed_sound s t c (Keys m ks) so a = subst IsSoundStore (sym a.3) so
allowed_sound s t c (Load at size found) so a = subst IsSoundStore (sym a.1.3) so
allowed_sound s t c (Store at size x) so a = subst IsSoundStore (sym a.1.2) (after_write_sound s c a.1.0 at _ x so a.1.1)
allowed_sound s t c (Atomic at size op operand expected found) so a = subst IsSoundStore (sym a.1.3) (after_write_sound s c a.1.0 at _ _ so a.1.1)

pub legal_sound : (s t : Plain) (log : List Entry) → IsSoundStore s → Legal s log t → IsSoundStore t
legal_sound s t [] so l = subst IsSoundStore l so
legal_sound s t (e ∷ es) so l = legal_sound l.0 t es (allowed_sound s l.0 e.cpu e.event so l.1) l.2

pub plainly_sound : (s t : Plain) (log : List Entry) → IsSoundStore s → PlainlyLegal s log t → IsSoundStore t
plainly_sound s t [] so l = subst IsSoundStore l so
plainly_sound s t (e ∷ es) so l = plainly_sound l.0 t es (allowed_sound s l.0 e.cpu e.event so l.1.0) l.2
