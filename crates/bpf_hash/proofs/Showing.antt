-- What a store shows after a call that leaves keys, bytes and places as they are.
use Rattle.std.proofs.Common.{◌≡◌, ◌≢◌, ℕ, ◌<◌, Bool, true, false, ◌&&◌, ◌==◌, if◌then◌else◌, List, inl, inr, length, slice_index_or, ap}
use Rattle.std.proofs.Common.{sym, ◌∙◌, subst, eq-eqb, ne_eqb}
use Rattle.std.specs.List.{count_by}
use Rattle.bpf_shared.specs.declared.events.Span.{Span}
use Rattle.bpf_shared.specs.declared.shapes.MapShape.{MapShape}
use Rattle.bpf_shared.specs.Shape.{elements, element_span}
use Rattle.bpf_shared.specs.Store.{Plain, Finds}
use Rattle.bpf_shared.specs.Passage.{same_span, held_without}
use Rattle.bpf_shared.proofs.Puts.{equal_or_not}
use Rattle.bpf_hash.specs.Private.Rows.{Rows, key_of, bytes_of, IsLinked}
use Rattle.bpf_hash.specs.Private.Contents.{Contents, rows, element_count, span_at, shapes_of, is_running, holds, keeps, any_below}
use Rattle.bpf_hash.specs.Private.Contents.{held_spans, IsUsed, StandsFor}
use Rattle.bpf_hash.proofs.AnyBelow.{any_below_same, any_below_none}

-- the same keys, bytes and places
pub record SameContent (p q : Contents) : Type 0 where
  pub cpus : length q.runs ≡ length p.runs
  pub tables : length q.tables ≡ length p.tables
  pub shapes : shapes_of q ≡ shapes_of p
  pub shape : (m : ℕ) → (rows q m).shape ≡ (rows p m).shape
  pub linked : (m : ℕ) → (rows q m).linked ≡ (rows p m).linked
  pub key : (m i : ℕ) → key_of (rows q m) i ≡ key_of (rows p m) i
  pub bytes : (m i : ℕ) → bytes_of (rows q m) i ≡ bytes_of (rows p m) i

pub same_tables : (p : Contents) (q : Contents) → length q.runs ≡ length p.runs → q.tables ≡ p.tables → SameContent p q
same_tables p q cpus e = record {
  cpus = cpus;
  tables = ap (length {A = Rows}) e;
  shapes = ap (λ (ts : List Rows). shapes_of (record p { tables = ts })) e;
  shape = λ m. ap (λ (ts : List Rows). (rows (record p { tables = ts }) m).shape) e;
  linked = λ m. ap (λ (ts : List Rows). (rows (record p { tables = ts }) m).linked) e;
  key = λ m i. ap (λ (ts : List Rows). key_of (rows (record p { tables = ts }) m) i) e;
  bytes = λ m i. ap (λ (ts : List Rows). bytes_of (rows (record p { tables = ts }) m) i) e;
}

module _ (p q : Contents) (same : SameContent p q) where
  pub span-same : (m i : ℕ) → span_at q m i ≡ span_at p m i
  span-same m i = ap (λ (h : MapShape). element_span m h i) (same.shape m)

  pub linked_was : (m i : ℕ) → IsLinked (rows q m) i → IsLinked (rows p m) i
  linked_was m i l = subst (λ (ms : List Bool). slice_index_or ms i false ≡ true) (same.linked m) l

  pub linked_still : (m i : ℕ) → IsLinked (rows p m) i → IsLinked (rows q m) i
  linked_still m i l = subst (λ (ms : List Bool). slice_index_or ms i false ≡ true) (sym (same.linked m)) l

  pub within_was : (m i : ℕ) → i < element_count q m → i < element_count p m
  within_was m i l = subst (λ (n : ℕ). i < n) (ap elements (same.shape m)) l

  pub within_still : (m i : ℕ) → i < element_count p m → i < element_count q m
  within_still m i l = subst (λ (n : ℕ). i < n) (sym (ap elements (same.shape m))) l

  -- who runs, holds and keeps what is all that can change
  pub shows_after : (s : Plain) (h : StandsFor p s) (running : ℕ → Bool) (held kept : ℕ → ℕ → Bool)
      → ((c : ℕ) → running c ≡ is_running q c)
      → ((m i : ℕ) → IsUsed q m i → IsUsed p m i)
      → ((c v : ℕ) → held c v ≡ true → (m : ℕ) × (i : ℕ) × (i < element_count q m) × (holds q c m i ≡ true) × (v ≡ h.number m i))
      → ((c m i : ℕ) → i < element_count q m → holds q c m i ≡ true → held c (h.number m i) ≡ true)
      → ((c v : ℕ) → kept c v ≡ true → (m : ℕ) × (i : ℕ) × (i < element_count q m) × (keeps q c m i ≡ true) × (v ≡ h.number m i))
      → ((c m i : ℕ) → i < element_count q m → keeps q c m i ≡ true → kept c (h.number m i) ≡ true)
      → StandsFor q (record s { running = running; held = held; kept = kept })
  shows_after s h running held kept runs used held_at held_back kept_at kept_back = record {
    cpus = h.cpus ∙ sym same.cpus;
    maps = h.maps ∙ sym same.shapes;
    running = runs;
    number = h.number;
    leads = λ m i l. subst (λ (key : List ℕ). Finds s m key (h.number m i)) (sym (same.key m i)) (h.leads m i (linked_was m i l));
    found = λ m key v l. (let f = h.found m key v l in (f.0, linked_still m f.0 f.1, same.key m f.0 ∙ f.2, f.3));
    counts = λ m. h.counts m ∙ ap (count_by (λ b. b)) (sym (same.linked m));
    values = λ m i l u.
        h.values m i (within_was m i l) (used m i u)
        ∙ (ap (λ (b : List ℕ). record { bytes = b; span = span_at p m i }) (sym (same.bytes m i))
        ∙ ap (λ (x : Span). record { bytes = bytes_of (rows q m) i; span = x }) (sym (span-same m i)));
    held = held_at;
    held_back = held_back;
    kept = kept_at;
    kept_back = kept_back;
  }

  -- the spans that are held, by what each element shows
  pub held_spans-same : ((c m i : ℕ) → holds q c m i ≡ holds p c m i) → held_spans q ≡ held_spans p
  held_spans-same e = λ k c x. go c x k
    where
      inner : (c : ℕ) (x : Span) (m : ℕ) → any_below (element_count q m) (λ i. holds q c m i && same_span x (span_at q m i)) ≡ any_below
          (element_count p m) (λ i. holds p c m i && same_span x (span_at p m i))
      inner c x m =
          ap (λ (n : ℕ). any_below n (λ i. holds q c m i && same_span x (span_at q m i))) (ap elements (same.shape m))
          ∙ any_below_same (element_count p m) (λ i. holds p c m i && same_span x (span_at p m i)) (λ i. holds q c m i && same_span x (span_at q m i))
          (λ i l. ap (λ (b : Bool). b && same_span x (span_at q m i)) (e c m i) ∙ ap (λ (y : Span). holds p c m i && same_span x y) (span-same m i))

      go : (c : ℕ) (x : Span) → held_spans q c x ≡ held_spans p c x
      go c x =
          ap (λ (n : ℕ). any_below n (λ m. any_below (element_count q m) (λ i. holds q c m i && same_span x (span_at q m i)))) same.tables
          ∙ any_below_same (length p.tables) (λ m. any_below (element_count p m) (λ i. holds p c m i && same_span x (span_at p m i)))
          (λ m. any_below (element_count q m) (λ i. holds q c m i && same_span x (span_at q m i))) (λ m l. inner c x m)

  -- one CPU holds nothing any more
  pub held_spans-without : (c : ℕ) → ((d m i : ℕ) → d ≢ c → holds q d m i ≡ holds p d m i) → ((m i : ℕ) → holds q c m i ≡ false) →
      held_spans q ≡ held_without (held_spans p) c
  held_spans-without c other own = λ k d x. go d x k
    where
      inner : (d : ℕ) (x : Span) → d ≢ c → (m : ℕ) → any_below (element_count q m) (λ i. holds q d m i && same_span x (span_at q m i)) ≡
          any_below (element_count p m) (λ i. holds p d m i && same_span x (span_at p m i))
      inner d x ne m =
          ap (λ (n : ℕ). any_below n (λ i. holds q d m i && same_span x (span_at q m i))) (ap elements (same.shape m))
          ∙ any_below_same (element_count p m) (λ i. holds p d m i && same_span x (span_at p m i)) (λ i. holds q d m i && same_span x (span_at q m i))
          (λ i l. ap (λ (b : Bool). b && same_span x (span_at q m i)) (other d m i ne) ∙ ap (λ (y : Span). holds p d m i && same_span x y) (span-same m i))

      nothing : (x : Span) (d : ℕ) → d ≡ c → held_spans q d x ≡ false
      nothing x d e = any_below_none (length q.tables) (λ m. any_below (element_count q m) (λ i. holds q d m i && same_span x (span_at q m i)))
          (λ m l. any_below_none (element_count q m) (λ i. holds q d m i && same_span x (span_at q m i))
          (λ i k. ap (λ (b : Bool). b && same_span x (span_at q m i)) (ap (λ (z : ℕ). holds q z m i) e ∙ own m i)))

      go : (d : ℕ) (x : Span) → held_spans q d x ≡ (if d == c then false else held_spans p d x)
      go d x = elim (equal_or_not d c) [
        | inl e ↦ nothing x d e ∙ sym (ap (λ (b : Bool). if b then false else held_spans p d x) (eq-eqb d c e))
        | inr ne ↦
            ap (λ (n : ℕ). any_below n (λ m. any_below (element_count q m) (λ i. holds q d m i && same_span x (span_at q m i)))) same.tables
            ∙ (any_below_same (length p.tables) (λ m. any_below (element_count p m) (λ i. holds p d m i && same_span x (span_at p m i)))
            (λ m. any_below (element_count q m) (λ i. holds q d m i && same_span x (span_at q m i))) (λ m l. inner d x ne m)
            ∙ sym (ap (λ (b : Bool). if b then false else held_spans p d x) (ne_eqb d c ne)))
      ]
