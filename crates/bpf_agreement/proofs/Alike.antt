-- Stores that differ in who runs and in what is held alone: a CPU that runs in both, and holds the same,
-- does in both what changes no hash map.
use Rattle.std.proofs.Common.{◌≡◌, ◌≢◌, ℕ, ◌<◌, Bool, true, Option, Some, None, ◌⊎◌, inl, inr, refl, sym, ap, subst, ◌∙◌}
use Rattle.std.specs.FinMap.{get}
use Rattle.bpf_shared.specs.declared.events.Event.{Event}
use Rattle.bpf_shared.specs.declared.events.Event.TheVariants.{Begin, End, Lookup, Update, Delete, Keys, Load, Store, Atomic}
use Rattle.bpf_shared.specs.declared.events.MapAnswer.TheVariants.{Invalid, Exists, Absent, Full}
use Rattle.bpf_shared.specs.Access.{bytes_in}
use Rattle.bpf_shared.specs.Store.{Plain, put}
use Rattle.bpf_shared.specs.Events.{Allowed, Reaches, MayWrite, after_begin, after_end, after_lookup, after_write}
use Rattle.bpf_shared.specs.Choice.{PlainlyAllowed}
use Rattle.bpf_shared.proofs.Puts.{put-same, put-other}

-- the second store is the first, but for who runs and what is held and kept
abbrev pub IsLike : Plain → Plain → Type 0
IsLike s t = t ≡ record s { running = t.running; held = t.held; kept = t.kept }

-- an access to a value, a lookup, a deletion that finds no key, or an update that is refused, and not for
-- a shortage
abbrev pub LeavesMaps : Event → Type 0
LeavesMaps (Lookup m key found) = Unit {0}
LeavesMaps (Update m key bytes flags Invalid) = Unit {0}
LeavesMaps (Update m key bytes flags Exists) = Unit {0}
LeavesMaps (Update m key bytes flags Absent) = Unit {0}
LeavesMaps (Update m key bytes flags Full) = Unit {0}
LeavesMaps (Delete m key Absent) = Unit {0}
LeavesMaps (Load a size found) = Unit {0}
LeavesMaps (Store a size x) = Unit {0}
LeavesMaps (Atomic a size op operand expected found) = Unit {0}
LeavesMaps _ = ⊥

-- the call that leads from s to m, made in t
pub record IsMadeToo (s m t : Plain) (c : ℕ) (e : Event) : Type 0 where
  pub next : Plain
  pub allowed : PlainlyAllowed t c e next
  pub shape : m.shape ≡ s.shape
  pub like : IsLike m next
  pub own : next.held c ≡ m.held c
  pub runs : next.running ≡ t.running
  pub others : (d : ℕ) → d ≢ c → next.held d ≡ t.held d
  pub ran : m.running ≡ s.running
  pub other : (d : ℕ) → d ≢ c → m.held d ≡ s.held d

-- the same, where nothing changes
pub nothing_changes : (s m t : Plain) (c : ℕ) (e : Event) → m ≡ s → IsLike s t → t.held c ≡ s.held c → PlainlyAllowed t c e t → IsMadeToo s m t c e
nothing_changes s m t c e same like own allowed = record {
  next = t;
  allowed = allowed;
  shape = ap (λ (x : Plain). x.shape) same;
  like = subst (λ (x : Plain). IsLike x t) (sym same) like;
  own = own ∙ ap (λ (x : Plain). x.held c) (sym same);
  runs = refl;
  others = λ d ne. refl;
  ran = ap (λ (x : Plain). x.running) same;
  other = λ d ne. ap (λ (x : Plain). x.held d) same;
}

module _ (s : Plain) (runs : ℕ → Bool) (k q : ℕ → ℕ → Bool) (c : ℕ) (running : runs c ≡ true) (own : k c ≡ s.held c) where
  abbrev there : Plain
  there = record s { running = runs; held = k; kept = q }

  reaches : (v a size : ℕ) → Reaches s c v a size → Reaches there c v a size
  reaches v a size r = record { holds = holds r.holds; covers = r.covers }
    where
      holds : {F : Type 0} → (s.held c v ≡ true) ⊎ F → (k c v ≡ true) ⊎ F
      holds (inl h) = inl (ap (λ (f : ℕ → Bool). f v) own ∙ h)
      holds (inr f) = inr f

  may_write : (v a size : ℕ) → MayWrite s c v a size → MayWrite there c v a size
  may_write v a size w = record { reaches = reaches v a size w.reaches; writable = w.writable }

  -- ---- lookups
  looked : (m : Plain) (e : Event) (o : Option ℕ) → m ≡ after_lookup s c o → PlainlyAllowed there c e (after_lookup there c o) → IsMadeToo s m there c e
  looked m e None same allowed = nothing_changes s m there c e same refl own allowed
  looked m e (Some v) same allowed = subst (λ (x : Plain). IsMadeToo s x there c e) (sym same) (record {
    next = after_lookup there c (Some v);
    allowed = allowed;
    shape = refl;
    like = refl;
    own = put-same k c c (put (k c) v true) refl ∙ ap (λ (f : ℕ → Bool). put f v true) own ∙ sym (put-same s.held c c (put (s.held c) v true) refl);
    runs = refl;
    others = λ d ne. put-other k c d (put (k c) v true) ne;
    ran = refl;
    other = λ d ne. put-other s.held c d (put (s.held c) v true) ne;
  })

  -- ---- writes
  written : (m : Plain) (e : Event) (v a size x : ℕ) → m ≡ after_write s v a size x → PlainlyAllowed there c e
      (after_write there v a size x) → IsMadeToo s m there c e
  written m e v a size x same allowed = subst (λ (y : Plain). IsMadeToo s y there c e) (sym same) (record {
    next = after_write there v a size x;
    allowed = allowed;
    shape = refl;
    like = refl;
    own = own;
    runs = refl;
    others = λ d ne. refl;
    ran = refl;
    other = λ d ne. refl;
  })

  made : (e : Event) (m : Plain) → LeavesMaps e → Allowed s c e m → IsMadeToo s m there c e
  made (Lookup m key found) t leaves a =
      looked t (Lookup m key found) (get (s.maps m) key) a.1.2 ((running, (a.1.0, a.1.1, refl)), tt)
  made (Update m key bytes flags Invalid) t leaves a = nothing_changes s t there c _ a.1.4.1 refl own
      ((running, (a.1.0, a.1.1, a.1.2, a.1.3, (a.1.4.0, refl))), tt)
  made (Update m key bytes flags Exists) t leaves a = nothing_changes s t there c _ a.1.4.1 refl own
      ((running, (a.1.0, a.1.1, a.1.2, a.1.3, (a.1.4.0, refl))), tt)
  made (Update m key bytes flags Absent) t leaves a = nothing_changes s t there c _ a.1.4.1 refl own
      ((running, (a.1.0, a.1.1, a.1.2, a.1.3, (a.1.4.0, refl))), tt)
  made (Update m key bytes flags Full) t leaves a = nothing_changes s t there c _ a.1.4.1 refl own
      ((running, (a.1.0, a.1.1, a.1.2, a.1.3, (a.1.4.0, refl))), tt)
  made (Delete m key Absent) t leaves a = nothing_changes s t there c _ a.1.1.1 refl own ((running, (a.1.0, (a.1.1.0, refl))), tt)
  made (Load at size found) t leaves a =
      nothing_changes s t there c _ a.1.3 refl own ((running, (a.1.0, reaches a.1.0 at (bytes_in size) a.1.1, a.1.2, refl)), tt)
  made (Store at size x) t leaves a =
      written t _ a.1.0 at (bytes_in size) x a.1.2 ((running, (a.1.0, may_write a.1.0 at (bytes_in size) a.1.1, refl)), tt)
  made (Atomic at size op operand expected found) t leaves a =
      written t _ a.1.0 at (bytes_in size) _ a.1.3 ((running, (a.1.0, may_write a.1.0 at (bytes_in size) a.1.1, a.1.2, refl)), tt)
  made e t leaves a = absurd leaves

-- a store that is like another has what it allows to a CPU that runs in both and holds the same
pub made_too : (s m t : Plain) (c : ℕ) (e : Event) → IsLike s t → t.running c ≡ true → t.held c ≡ s.held c → LeavesMaps e → Allowed s c e m
    → IsMadeToo s m t c e
made_too s m t c e like running own leaves allowed =
    subst (λ (x : Plain). IsMadeToo s m x c e) (sym like) (made s t.running t.held t.kept c running own e m leaves allowed)

-- ---- begins and ends of runs, in one of the stores or in both
pub like_begun : (s t : Plain) (c : ℕ) → IsLike s t → IsLike s (after_begin t c)
like_begun s t c like = subst (λ (x : Plain). IsLike s (after_begin x c)) (sym like) refl

pub like_begin : (s t : Plain) (c : ℕ) → IsLike s t → IsLike (after_begin s c) t
like_begin s t c like = subst (λ (x : Plain). IsLike (after_begin s c) x) (sym like) refl

pub like_ended : (s t : Plain) (c : ℕ) → IsLike s t → IsLike s (after_end t c)
like_ended s t c like = subst (λ (x : Plain). IsLike s (after_end x c)) (sym like) refl

pub like_end : (s t : Plain) (c : ℕ) → IsLike s t → IsLike (after_end s c) t
like_end s t c like = subst (λ (x : Plain). IsLike (after_end s c) x) (sym like) refl

-- who does anything in a store is one of its CPUs, or in a run
pub allowed_here : (s m : Plain) (c : ℕ) (e : Event) → Allowed s c e m → (c < s.shape.cpus) ⊎ (s.running c ≡ true)
allowed_here s m c Begin a = inl a.0
allowed_here s m c (Keys n ks) a = inl a.0
allowed_here s m c End a = inr a.0
allowed_here s m c (Lookup n key found) a = inr a.0
allowed_here s m c (Update n key bytes flags answer) a = inr a.0
allowed_here s m c (Delete n key answer) a = inr a.0
allowed_here s m c (Load at size found) a = inr a.0
allowed_here s m c (Store at size x) a = inr a.0
allowed_here s m c (Atomic at size op operand expected found) a = inr a.0
