-- Cutting a line into tokens.
use Rattle.std.proofs.Common.{◌≡◌, ℕ, ◌+◌, ◌≤◌, true, List, [], ◌∷◌, ◌++◌, length, map, take, take_while, drop, append_assoc, append-nil}
use Rattle.std.proofs.Common.{Option, Some, None, ◌⊎◌, inl, inr, refl, sym, ap, ◌∙◌, subst, arith}
use Rattle.std.specs.Prelude.{IfSome, nat_eq}
use Rattle.std.specs.List.{starts_with}
use Rattle.std.proofs.lemmas.List.{map-append, drop-drop, length-map}
use Rattle.std.proofs.lemmas.Slice.Eq.{bytes_eq-Decides}
use Rattle.std.proofs.lemmas.List.{length-take}
use Rattle.bpf_spelling.specs.declared.signs.Sign.{Sign}
use Rattle.bpf_text.specs.declared.token.Token.{Token}
use Rattle.bpf_spelling.specs.Signs.{sign_text, sign_at}
use Rattle.bpf_spelling.specs.declared.signs.TheConstants.{SIGNS}
use Rattle.bpf_spelling.proofs.Finding.{found_by}
use Rattle.bpf_spelling.proofs.LongestSign.{first_is_longest}
use Rattle.bpf_spelling.specs.Private.Letters.{first_sign}
use Rattle.bpf_spelling.specs.Token.{Tok}
use Rattle.bpf_lines.specs.Lines.{is_blank}
use Rattle.bpf_text.specs.Tokens.{after_blanks, front_tok, front_len, IsEnd, AreTokens, IsTokens}
use Rattle.bpf_text.specs.Misfit.{StandBehind, ArePlaces}
use Rattle.bpf_text.specs.Private.Look.{look}
use Rattle.bpf_text.specs.Private.Cutting.{BeginTokens, KeepsToken}

-- ---- a sign is no longer than the text that it begins

length-starts : (text xs : List ℕ) → starts_with nat_eq text xs ≡ true → length xs ≤ length text
length-starts text xs e =
    let same : xs ≡ take (length xs) text = (bytes_eq-Decides xs (take (length xs) text)).0 e in
    omega (arith, ap length same, length-take (length xs) text)

begins-longest : (text : List ℕ) (o : Option Sign) (s : Sign) → o ≡ Some s → IfSome o (λ t. starts_with nat_eq text (sign_text t) ≡ true) →
    starts_with nat_eq text (sign_text s) ≡ true
begins-longest text (Some t) s e h = let same : t ≡ s = cc in ap (λ x. starts_with nat_eq text (sign_text x)) (sym same) ∙ h
begins-longest text None s e h = cc

pub length-sign_at : (text : List ℕ) (s : Sign) → sign_at text ≡ Some s → length (sign_text s) ≤ length text
length-sign_at text s e =
    let begins = λ (s : Sign). starts_with nat_eq text (sign_text s) in
    let found : IfSome (first_sign text) (λ t. begins t ≡ true) = found_by begins SIGNS (λ t. begins t ≡ true) (λ t h. h) in
    length-starts text (sign_text s) (begins-longest text (first_sign text) s (first_is_longest text ∙ e) found)

-- ---- the loop

-- the line is these tokens, and then those of what is at this place
pub record Reached (line : List ℕ) (done : List Tok) (at : ℕ) : Type 0 where
  pub on : (ts : List Tok) → AreTokens (drop at line) ts → IsTokens line (done ++ ts)

pub reached_start : (line : List ℕ) (at : ℕ) → at ≡ length (take_while is_blank line) → Reached line [] at
reached_start line at e = record { on = λ ts h. let P : ℕ → Type 0 = λ k. AreTokens (drop k line) ts in subst P e h }

pub reached_next : (line : List ℕ) (done : List Tok) (at n next : ℕ) (t : Tok) → Reached line done at → (IsEnd (drop at line) → ⊥) → t ≡
    front_tok (drop at line) → n ≡ front_len (drop at line) → next ≡ (at + n) + length (take_while is_blank (drop (at + n) line)) → Reached
    line (done ++ t ∷ []) next
reached_next line done at n next t r more token len e = record { on = on }
  where
    place : drop next line ≡ after_blanks (drop (front_len (drop at line)) (drop at line))
    place =
        ap (λ k. drop k line) e
        ∙ sym (drop-drop (length (take_while is_blank (drop (at + n) line))) (at + n) line)
        ∙ ap after_blanks (sym (drop-drop n at line) ∙ ap (λ k. drop k (drop at line)) len)

    on : (ts : List Tok) → AreTokens (drop next line) ts → IsTokens line ((done ++ t ∷ []) ++ ts)
    on ts h =
        let P : List ℕ → Type 0 = λ x. AreTokens x ts in
        let Q : List Tok → Type 0 = λ us. IsTokens line us in
        subst Q (sym (append_assoc done (t ∷ []) ts)) (r.on (t ∷ ts) (more, token, subst P place h))

pub reached_end : (line : List ℕ) (done : List Tok) (at : ℕ) → Reached line done at → IsEnd (drop at line) → IsTokens line done
reached_end line done at r e = let P : List Tok → Type 0 = λ us. IsTokens line us in subst P (append-nil done) (r.on [] e)

-- the same, of which the first tokens are kept
pub record IsCut (line : List ℕ) (kept : List Token) (at : ℕ) : Type 0 where
  pub rest : List Tok
  pub reached : Reached line (map look kept ++ rest) at
  pub many : (rest ≡ []) ⊎ (64 ≤ length kept)

pub cut_start : (line : List ℕ) (none : List Token) (at : ℕ) → none ≡ [] → at ≡ length (take_while is_blank line) → IsCut line none at
cut_start line none at e start =
    let P : List Tok → Type 0 = λ ts. Reached line ts at in
    record { rest = []; reached = subst P (sym (ap (λ (ts : List Token). map look ts ++ []) e)) (reached_start line at start); many = inl refl }

pub cut_next : (line : List ℕ) (old new : List Token) (t : Token) (at n next : ℕ) → IsCut line old at → (IsEnd (drop at line) → ⊥) → look t
    ≡ front_tok (drop at line) → n ≡ front_len (drop at line) → next ≡ (at + n) + length (take_while is_blank (drop (at + n) line)) →
    KeepsToken old t new → IsCut line new next
cut_next line old new t at n next cut more token len e kept = go cut.many kept
  where
    P : List Tok → Type 0
    P ts = Reached line ts next

    on : Reached line ((map look old ++ cut.rest) ++ look t ∷ []) next
    on = reached_next line (map look old ++ cut.rest) at n next (look t) cut.reached more token len e

    whole : cut.rest ≡ [] → new ≡ old ++ t ∷ [] → (map look old ++ cut.rest) ++ look t ∷ [] ≡ map look new ++ []
    whole none pushed =
        ap (λ (r : List Tok). (map look old ++ r) ++ look t ∷ []) none
        ∙ ap (λ (ts : List Tok). ts ++ look t ∷ []) (append-nil (map look old))
        ∙ sym (ap (map look) pushed ∙ map-append look old (t ∷ []))
        ∙ sym (append-nil (map look new))

    left : new ≡ old → (map look old ++ cut.rest) ++ look t ∷ [] ≡ map look new ++ (cut.rest ++ look t ∷ [])
    left same = append_assoc (map look old) cut.rest (look t ∷ []) ∙ ap (λ (ts : List Token). map look ts ++ (cut.rest ++ look t ∷ [])) (sym same)

    go : (cut.rest ≡ []) ⊎ (64 ≤ length old) → KeepsToken old t new → IsCut line new next
    go (inl none) (inl (few, pushed)) = record { rest = []; reached = subst P (whole none pushed) on; many = inl refl }
    go (inr long) (inl (few, pushed)) = absurd (omega arith)
    go many (inr (long, same)) = record {
      rest = cut.rest ++ look t ∷ [];
      reached = subst P (left same) on;
      many = inr
          (subst (λ (ts : List Token). 64 ≤ length ts) (sym same) long);
    }

pub cut_end : (line : List ℕ) (kept : List Token) (at : ℕ) → IsCut line kept at → IsEnd (drop at line) → BeginTokens line (map look kept)
cut_end line kept at cut e = (
  cut.rest,
  reached_end line (map look kept ++ cut.rest) at cut.reached e,
  elim cut.many [ inl none ↦ inl none | inr long ↦ inr (omega (arith, long, length-map kept look)) ],
)

-- ---- a text has one list of tokens

pub same_tokens : (ts us : List Tok) (text : List ℕ) → AreTokens text ts → AreTokens text us → us ≡ ts
same_tokens [] [] text a b = refl
same_tokens [] (u ∷ us) text a b = absurd (b.0 a)
same_tokens (t ∷ ts) [] text a b = absurd (a.0 b)
same_tokens (t ∷ ts) (u ∷ us) text a b =
    let rest = same_tokens ts us (after_blanks (drop (front_len text) text)) a.2 b.2 in
    let first : u ≡ t = b.1 ∙ sym a.1 in
    ap (λ x. x ∷ us) first ∙ ap (λ x. t ∷ x) rest

-- ---- the places of tokens

-- this many bytes are before the tokens of what is at this place, and these before those of
-- the whole line
pub record Placed (line placed : List ℕ) (at : ℕ) : Type 0 where
  pub on : (ps : List ℕ) → StandBehind line (drop at line) ps → ArePlaces line (placed ++ ps)

pub placed_start : (line placed : List ℕ) (at : ℕ) → placed ≡ [] → at ≡ length (take_while is_blank line) → Placed line placed at
placed_start line placed at none e = record {
  on = λ ps h. let P : ℕ → Type 0 = λ k. StandBehind line (drop k line) ps in
      let Q : List ℕ → Type 0 = λ qs. ArePlaces line (qs ++ ps) in
      subst Q (sym none) (subst P e h);
}

pub placed_next : (line placed new : List ℕ) (at n next : ℕ) → Placed line placed at → (IsEnd (drop at line) → ⊥) → at ≤ length line → new ≡
    placed ++ at ∷ [] → n ≡ front_len (drop at line) → next ≡ (at + n) + length (take_while is_blank (drop (at + n) line)) → Placed line new next
placed_next line placed new at n next p more within pushed len e = record { on = on }
  where
    place : drop next line ≡ after_blanks (drop (front_len (drop at line)) (drop at line))
    place =
        ap (λ k. drop k line) e
        ∙ sym (drop-drop (length (take_while is_blank (drop (at + n) line))) (at + n) line)
        ∙ ap after_blanks (sym (drop-drop n at line) ∙ ap (λ k. drop k (drop at line)) len)

    on : (ps : List ℕ) → StandBehind line (drop next line) ps → ArePlaces line (new ++ ps)
    on [] h = absurd h
    on (q ∷ ps) h =
        let P : List ℕ → Type 0 = λ text. StandBehind line text (q ∷ ps) in
        let Q : List ℕ → Type 0 = λ qs. ArePlaces line qs in
        subst Q (sym (ap (λ (qs : List ℕ). qs ++ q ∷ ps) pushed ∙ append_assoc placed (at ∷ []) (q ∷ ps)))
        (p.on (at ∷ q ∷ ps) (within, refl, more, subst P place h))

pub placed_end : (line placed new : List ℕ) (at : ℕ) → Placed line placed at → IsEnd (drop at line) → at ≤ length line → new ≡ placed ++ at
    ∷ [] → ArePlaces line new
placed_end line placed new at p e within pushed = let Q : List ℕ → Type 0 = λ qs. ArePlaces line qs in subst Q (sym pushed) (p.on (at ∷ []) (within, refl, e))
