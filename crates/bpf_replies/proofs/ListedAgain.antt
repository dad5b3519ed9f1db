-- What `asm` replies to listings.
use Rattle.std.proofs.Common.{◌≡◌, ℕ, ◌/◌, ◌<◌, suc, false, List, [], ◌∷◌, length, Result, Ok, Err, sym, ap, subst, ◌∙◌}
use Rattle.std.specs.Prelude.{All, string_bytes}
use Rattle.std.proofs.Common.{inl, inr}
use Rattle.std.proofs.lemmas.List.Elements.{All-cons, All-nil}
use Rattle.hex.specs.Hex.{IsBytes}
use Rattle.hex.proofs.HexLemmas.{decode_of-ok, decode_of-same}
use Rattle.bpf_insn.specs.declared.instruction.Insn.{Insn}
use Rattle.bpf_insn.specs.Encoding.{IsEncodedAs}
use Rattle.bpf_insn.specs.Laws.{EncodingsAreDetermined}
use Rattle.bpf_text.specs.declared.error.TextError.{TextError}
use Rattle.bpf_text.specs.Assembly.{Assembles}
use Rattle.bpf_lines.specs.HexText.{digits_of}
use Rattle.bpf_text.specs.Laws.{TextsAreDetermined}
use Rattle.bpf_disassembly.specs.Listing.Laws.{ListingsAssembleAlike, ProgramLinesAssembleToTheirWords}
use Rattle.bpf_replies.specs.Answer.{reply_text}
use Rattle.bpf_replies.specs.Programs.{IsAssembled}
use Rattle.bpf_replies.specs.Laws.{ListedWordsAreAnswered, ListingsAreAnsweredAlike}
use Rattle.bpf_replies.specs.Listing.{word_lines}
use Rattle.bpf_replies.specs.declared.refusal.Refusal.TheVariants as refusal
use Rattle.bpf_replies.specs.declared.reply.Reply.{Reply}
use Rattle.bpf_replies.specs.declared.reply.Reply.TheVariants as reply
use Rattle.bpf_replies.proofs.OneText.{Assembled, NoAssembly, OfAssembly, of_assembly}

-- ---- listings of texts

-- a reply to one text is one to each that stands for the same
moved : (a b : List ℕ) → ((o : Result (List Insn) TextError) → Assembles a o → Assembles b o) → (r : Reply) → IsAssembled false a r → IsAssembled false b r
moved a b alike (reply.Text printed) h = (h.0, h.1, alike (Ok h.0) h.2, h.3, h.4, h.5)
moved a b alike (reply.Refused (refusal.Text error)) (inl memory) = inl memory
moved a b alike (reply.Refused (refusal.Text error)) (inr refused) = inr (alike (Err error) refused)
moved a b alike (reply.Refused (refusal.Insn error)) h = h
moved a b alike (reply.Refused r) h = absurd h
moved a b alike (reply.Ended outcome) h = absurd h
moved a b alike (reply.Jobs printed stopped) h = absurd h
moved a b alike (reply.Counted printed stopped stats) h = absurd h
moved a b alike (reply.Script answers lines stopped refused) h = absurd h
moved a b alike (reply.Outcomes printed stopped all) h = absurd h
moved a b alike (reply.NoOutcome printed all) h = absurd h
moved a b alike (reply.Several printed refused unmet told) h = absurd h

pub listing_answered : TextsAreDetermined → ListingsAssembleAlike → ListingsAreAnsweredAlike
listing_answered texts listings text listing r h =
    let there : (o : Result (List Insn) TextError) → Assembles text o → Assembles (string_bytes listing) o = λ o a. listings 0 h.1 text
    (string_bytes listing) o h.5 a in
    let back : (o : Result (List Insn) TextError) → Assembles (string_bytes listing) o → Assembles text o =
    λ o a. subst (λ (p : Result (List Insn) TextError). Assembles text p) (texts (string_bytes listing) (Ok h.0) o (there (Ok h.0) h.2) a) h.2 in
    (moved (string_bytes listing) text back r, moved text (string_bytes listing) there r)

-- ---- listings of words

small_bytes : (bytes : List ℕ) → IsBytes bytes → All (λ b. b < 256) bytes
small_bytes [] h = All-nil (λ b. b < 256)
small_bytes (b ∷ bytes) h = All-cons (λ b. b < 256) b bytes (h 0) (small_bytes bytes (λ i. h (suc i)))

module _ (texts : TextsAreDetermined) (encodings : EncodingsAreDetermined) (lines : ProgramLinesAssembleToTheirWords) where
  words_printed : (text bytes : List ℕ) (is : List Insn) (r : Reply) → Assembles text (Ok is) → IsEncodedAs is bytes → All (λ b. b < 256)
      bytes → OfAssembly false text r
      → reply_text r ≡ word_lines (length bytes / 8) bytes
  words_printed text bytes is r stands encoded small (Assembled printed h) =
      let both : Ok h.0 ≡ Ok is = texts text (Ok h.0) (Ok is) h.2 stands in
      let same : h.0 ≡ is = cc in
      let words : h.1 ≡ bytes = encodings is h.1 bytes h.3 small (subst (λ (js : List Insn). IsEncodedAs js h.1) same h.4) encoded in
      h.5 ∙ ap (λ (bs : List ℕ). word_lines (length bs / 8) bs) words
  words_printed text bytes is r stands encoded small (NoAssembly error h) = let both : Ok is ≡ Err error = texts text (Ok is) (Err error) stands h in absurd cc

  pub words_answered : ListedWordsAreAnswered
  words_answered text bytes listing r spelled h a n =
      let found = h.1 in
      let same : found.0 ≡ bytes = decode_of-same (digits_of text) found.0 bytes found.1 spelled in
      let stands : Assembles (string_bytes listing) (Ok h.0) = subst (λ (t : List ℕ). Assembles t (Ok h.0)) (sym h.2) (lines 0 found.0 h.0 found.3) in
      let small = small_bytes found.0 (decode_of-ok (digits_of text) found.0 found.1).3 in
      words_printed (string_bytes listing) found.0 h.0 r stands found.3 small (of_assembly false (string_bytes listing) r a n)
      ∙ ap (λ (bs : List ℕ). word_lines (length bs / 8) bs) same
