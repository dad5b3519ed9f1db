-- Texts that are written one after the other.
use Rattle.std.proofs.Common.{◌≡◌, ◌∙◌, ℕ, ◌+◌, ◌<◌, List, [], ◌++◌, drop, take, get_or, length, map, Result, Ok, Err, ap, sym, append_assoc, append-nil, subst}
use Rattle.std.specs.Prelude.{IfErr, IsErrAnd, OnErr, OnOk}
use Rattle.std.specs.List.{concat}
use Rattle.std.proofs.lemmas.List.{drop_more}
use Rattle.bpf_talk.specs.Terminal.{Call, IsPut}
use Rattle.bpf_talk.proofs.TerminalLaws.{put_begun, put_next}
use denote.Ref.{Bor}

abbrev pub texts_left : List (Bor (List ℕ)) → ℕ → List ℕ
texts_left texts i = concat (map (λ (t : Bor (List ℕ)). t.now) (drop i texts))

pub next_text : (texts : List (Bor (List ℕ))) (i : ℕ) (d : Bor (List ℕ)) → i < length texts → texts_left texts i ≡ (get_or texts i d).now ++
    texts_left texts (i + 1)
next_text texts i d inside = ap (λ (ts : List (Bor (List ℕ))). concat (map (λ (t : Bor (List ℕ)). t.now) ts)) (drop_more texts i d inside)

-- some of them are written, and this is left
pub record Far (Reached : List Call → Type 0) (all left : List ℕ) : Type 0 where
  pub before : List ℕ
  pub calls : List Call
  pub reached : Reached calls
  pub put : IsPut before calls
  pub whole : all ≡ before ++ left

pub far_more : (Old New : List Call → Type 0) (all left text rest : List ℕ) (more : List Call) →
    ((calls : List Call) → Old calls → New (more ++ calls)) → left ≡ text ++ rest
    → IsPut text more → Far Old all left → Far New all rest
far_more Old New all left text rest more on is put f = record {
  before = f.before ++ text;
  calls = more ++ f.calls;
  reached = on f.calls f.reached;
  put = put_next f.before text f.calls more f.put put;
  whole = f.whole ∙ ap (λ (t : List ℕ). f.before ++ t) is ∙ sym (append_assoc f.before text rest);
}

pub far_end : (Reached : List Call → Type 0) (all : List ℕ) → Far Reached all [] → (calls : List Call) × Reached calls × IsPut all calls
far_end Reached all f = (f.calls, f.reached, subst (λ (t : List ℕ). IsPut t f.calls) (sym (f.whole ∙ append-nil f.before)) f.put)

pub far_cut : (Old New : List Call → Type 0) (all left text rest : List ℕ) (k : ℕ) (more : List Call) →
    ((calls : List Call) → Old calls → New (more ++ calls)) → left ≡ text ++ rest
    → IsPut (take k text) more → Far Old all left → (n : ℕ) × (calls : List Call) × New calls × IsPut (take n all) calls
far_cut Old New all left text rest k more on is put f =
    let cut = put_begun f.before text rest all k f.calls more (f.whole ∙ ap (λ (t : List ℕ). f.before ++ t) is) f.put put in
    (cut.0, more ++ f.calls, on f.calls f.reached, cut.1)

-- what follows from what a call says where it succeeds, and where it fails
pub ok_then : {E U : Type 0} (r : Result U E) (A B : Type 0) → (A → B) → OnOk r A → OnOk r B
ok_then (Ok u) A B f h = f h
ok_then (Err e) A B f h = tt

pub err_then : {E U : Type 0} (r : Result U E) (A B : Type 0) → (A → B) → OnErr r A → OnErr r B
err_then (Ok u) A B f h = tt
err_then (Err e) A B f h = f h

pub for_err : {E U : Type 0} (r : Result U E) (P : Type 0) → P → OnErr r P
for_err (Ok u) P h = tt
for_err (Err e) P h = h

-- an error that is handed on
pub err_of : {E U : Type 0} (r : Result U E) (e : E) (P : E → Type 0) → P e → IsErrAnd r (λ f. f ≡ e) → IfErr r P
err_of (Ok u) e P h same = tt
err_of (Err f) e P h same = subst P (sym same) h
