-- A write to the packet, to the context or to a frame, seen by addresses.
use Rattle.std.proofs.Common.{◌≡◌, ◌≢◌, ℕ, zero, suc, ◌+◌, ◌-◌, ◌/◌, ◌%◌, ◌<◌, ◌≤◌, List, [], ◌∷◌, length, take, drop, get_or, refl, sym}
use Rattle.std.proofs.Common.{ap, ◌∙◌, arith, ◌⊎◌, inl, inr}
use Rattle.std.proofs.Math.ListN.{set}
use Rattle.std.specs.Prelude.{Some, map, option_and_then, slice_get}
use Rattle.std.proofs.lemmas.Option.{slice_get-get_or}
use Rattle.std.proofs.lemmas.List.{get_or-set_same}
use Rattle.std.proofs.lemmas.List.Elements.{All-set}
use Rattle.std.proofs.Math.ListN.{length-set}
use Rattle.bpf_base.specs.Bytes.{with_part}
use Rattle.bpf_mem.specs.Limits.{max_context, max_packet, frame_bytes}
use Rattle.bpf_mem.specs.Addresses.{context_base, frame_base, packet_base}
use Rattle.bpf_mem.specs.Memory.{byte_at, Writes}
use Rattle.bpf_mem.specs.declared.memory.PrivateMemory.{PrivateMemory}
use Rattle.bpf_mem.proofs.AreaLemmas.{Sized, by_le, byte_at-parts, context_byte, frame_byte, context_byte-below, context_byte-at}
use Rattle.bpf_mem.proofs.AreaLemmas.{frame_byte-below, frame_byte-at, packet_byte, packet_byte-below, packet_byte-at}
use Rattle.bpf_base.proofs.Parts.{length-with_part, part-with_part, slice_get-with_part}
use Rattle.bpf_base.proofs.Lists.{slice_get-set_other, slice_get-set_same}
use Rattle.bpf_mem.proofs.ReachLemmas.{context-bytes, frame-bytes, packet-bytes}

-- the byte at an address, where no part has another one there
same_byte : (old new : PrivateMemory) (a : ℕ) → frame_byte new a ≡ frame_byte old a → context_byte new a ≡ context_byte old a → packet_byte
    new a ≡ packet_byte old a → byte_at new a ≡ byte_at old a
same_byte old new a frames context packet = byte_at-parts new a ∙ rw (frames, context, packet) (sym (byte_at-parts old a))

same_frames : (old new : PrivateMemory) (a : ℕ) → new.frames.live ≡ old.frames.live → frame_byte new a ≡ frame_byte old a
unfolding frame_byte
same_frames old new a e = rw e

same_context : (old new : PrivateMemory) (a : ℕ) → new.context ≡ old.context → context_byte new a ≡ context_byte old a
unfolding context_byte
same_context old new a e = rw e

same_packet : (old new : PrivateMemory) (a : ℕ) → new.packet ≡ old.packet → packet_byte new a ≡ packet_byte old a
unfolding packet_byte
same_packet old new a e = rw e

packet-others : (old new : PrivateMemory) (o : ℕ) (bytes : List ℕ) → o + length bytes ≤ length old.packet → new.packet ≡ with_part
    old.packet o bytes → (a : ℕ) → (a < packet_base + o) ⊎ (packet_base + o + length bytes ≤ a) → packet_byte new a ≡ packet_byte old a
packet-others old new o bytes h packet a outside = by_le packet_base a inside below
  where
    below : a < packet_base → packet_byte new a ≡ packet_byte old a
    below low = packet_byte-below new a low ∙ sym (packet_byte-below old a low)

    inside : packet_base ≤ a → packet_byte new a ≡ packet_byte old a
    inside high =
        let i = a - packet_base in
        let apart : (i < o) ⊎ (o + length bytes ≤ i) = elim outside [ inl before ↦ inl (omega arith) | inr after ↦ inr (omega arith) ] in
        packet_byte-at new a i (omega arith) ∙ ap (λ list. slice_get list i) packet ∙ slice_get-with_part old.packet o bytes h i apart ∙ sym
        (packet_byte-at old a i (omega arith))

pub Writes-packet : (old new : PrivateMemory) (o : ℕ) (bytes : List ℕ) → length old.packet ≤ max_packet → o + length bytes ≤ length
    old.packet → new.packet ≡ with_part old.packet o bytes → new.context ≡ old.context → new.frames.live ≡ old.frames.live →
    new.frames.callers ≡ old.frames.callers → Writes old (packet_base + o) bytes new
Writes-packet old new o bytes brief h packet context frames callers =
    let n = length bytes in
    let sized : o + n ≤ length new.packet = omega (arith, ap length packet, length-with_part old.packet o bytes h) in
    record {
      written = packet-bytes new (packet_base + o) o n refl (omega arith) sized ∙ ap (λ list. Some (take n (drop o list))) packet ∙ ap Some
          (part-with_part old.packet o bytes h);
      others = λ a outside. same_byte old new a (same_frames old new a frames) (same_context old new a context)
          (packet-others old new o bytes h packet a outside);
      frames = ap (λ fs. map length fs) frames;
      context = ap length context;
      packet = ap length packet ∙ length-with_part old.packet o bytes h;
      callers = callers;
    }

context-others : (old new : PrivateMemory) (o : ℕ) (bytes : List ℕ) → o + length bytes ≤ length old.context → new.context ≡ with_part
    old.context o bytes → (a : ℕ) → (a < context_base + o) ⊎ (context_base + o + length bytes ≤ a) → context_byte new a ≡ context_byte old a
context-others old new o bytes h context a outside = by_le context_base a inside below
  where
    below : a < context_base → context_byte new a ≡ context_byte old a
    below low = context_byte-below new a low ∙ sym (context_byte-below old a low)

    inside : context_base ≤ a → context_byte new a ≡ context_byte old a
    inside high =
        let i = a - context_base in
        let apart : (i < o) ⊎ (o + length bytes ≤ i) = elim outside [ inl before ↦ inl (omega arith) | inr after ↦ inr (omega arith) ] in
        context_byte-at new a i (omega arith) ∙ ap (λ list. slice_get list i) context ∙ slice_get-with_part old.context o bytes h i apart ∙
        sym (context_byte-at old a i (omega arith))

pub Writes-context : (old new : PrivateMemory) (o : ℕ) (bytes : List ℕ) → length old.context ≤ max_context → o + length bytes ≤ length
    old.context → new.context ≡ with_part old.context o bytes → new.packet ≡ old.packet → new.frames.live ≡ old.frames.live →
    new.frames.callers ≡ old.frames.callers → Writes old (context_base + o) bytes new
Writes-context old new o bytes small h context packet frames callers =
    let n = length bytes in
    let sized : o + n ≤ length new.context = omega (arith, ap length context, length-with_part old.context o bytes h) in
    record {
      written = context-bytes new (context_base + o) o n refl (omega arith) sized ∙ ap (λ list. Some (take n (drop o list))) context ∙ ap
          Some (part-with_part old.context o bytes h);
      others = λ a outside. same_byte old new a (same_frames old new a frames) (context-others old new o bytes h context a outside)
          (same_packet old new a packet);
      frames = ap (λ fs. map length fs) frames;
      context = ap length context ∙ length-with_part old.context o bytes h;
      packet = ap length packet;
      callers = callers;
    }

-- the byte at an offset of some frame, where one frame is another but has the same byte there
kept : (frames : List (List ℕ)) (d k i : ℕ) (frame : List ℕ) → d < length frames →
    (k ≡ d → slice_get frame i ≡ slice_get (get_or frames d []) i) → option_and_then (λ f. slice_get f i) (slice_get (set frames d frame) k)
    ≡ option_and_then (λ f. slice_get f i) (slice_get frames k)
kept frames d k i frame live same =
    by_le k d (λ low. by_le d k (λ high. equal (omega arith)) (λ below. apart (λ e. omega arith))) (λ above. apart (λ e. omega arith))
  where
    apart : k ≢ d → option_and_then (λ f. slice_get f i) (slice_get (set frames d frame) k) ≡ option_and_then (λ f. slice_get f i) (slice_get frames k)
    apart h = rw (slice_get-set_other frames d k frame h)

    equal : k ≡ d → option_and_then (λ f. slice_get f i) (slice_get (set frames d frame) k) ≡ option_and_then (λ f. slice_get f i) (slice_get frames k)
    equal e = rw (e, slice_get-set_same frames d frame live, slice_get-get_or frames d [] live) (same e)

frame-others : (old new : PrivateMemory) (d o : ℕ) (bytes : List ℕ) → Sized old.frames.live → Sized new.frames.live → d < length
    old.frames.live → o + length bytes ≤ 512 → new.frames.live ≡ set old.frames.live d (with_part (get_or old.frames.live d []) o bytes) →
    (a : ℕ) → (a < frame_base d + o) ⊎ (frame_base d + o + length bytes ≤ a) → frame_byte new a ≡ frame_byte old a
frame-others old new d o bytes sized sized' live h frames a outside = by_le (frame_base 0) a inside below
  where
    below : a < frame_base 0 → frame_byte new a ≡ frame_byte old a
    below low = frame_byte-below new a low ∙ sym (frame_byte-below old a low)

    inside : frame_base 0 ≤ a → frame_byte new a ≡ frame_byte old a
    inside high =
        let k = (a - frame_base 0) / 0x1000 in
        let i = (a - frame_base 0) % 0x1000 in
        let frame = get_or old.frames.live d [] in
        let apart : k ≡ d → (i < o) ⊎ (o + length bytes ≤ i) = λ e. elim outside [ inl before ↦ inl (omega arith) | inr after ↦ inr (omega arith) ] in
        let same : k ≡ d → slice_get (with_part frame o bytes) i ≡ slice_get frame i =
        λ e. slice_get-with_part frame o bytes (omega (arith, sized d [] live)) i (apart e) in
        frame_byte-at new a k i sized' (omega arith) (omega arith)
        ∙ ap (λ live. option_and_then (λ f. slice_get f i) (slice_get live k)) frames
        ∙ kept old.frames.live d k i (with_part frame o bytes) live same
        ∙ sym (frame_byte-at old a k i sized (omega arith) (omega arith))

-- the lengths of frames of which one is another of the same length
lengths : (frames : List (List ℕ)) (d : ℕ) (frame : List ℕ) → length frame ≡ length (get_or frames d []) → map length (set frames d frame) ≡ map length frames
lengths [] d frame e = refl
lengths (f ∷ fs) zero frame e = ap (λ n. n ∷ map length fs) e
lengths (f ∷ fs) (suc d) frame e = ap (λ ns. length f ∷ ns) (lengths fs d frame e)

pub Writes-frame : (old new : PrivateMemory) (d o : ℕ) (bytes : List ℕ) → Sized old.frames.live → d < length old.frames.live → o + length
    bytes ≤ 512 → new.context ≡ old.context → new.packet ≡ old.packet → new.frames.live ≡ set old.frames.live d
    (with_part (get_or old.frames.live d []) o bytes) → new.frames.callers ≡ old.frames.callers → Writes old (frame_base d + o) bytes new
Writes-frame old new d o bytes sized live h context packet frames callers =
    let n = length bytes in
    let frame = get_or old.frames.live d [] in
    let room : o + n ≤ length frame = omega (arith, sized d [] live) in
    let count : length new.frames.live ≡ length old.frames.live = ap length frames ∙ length-set old.frames.live d (with_part frame o bytes) in
    let sized' : Sized new.frames.live =
    rw frames (All-set (λ f. length f ≡ frame_bytes) old.frames.live d (with_part frame o bytes)
    (length-with_part frame o bytes room ∙ sized d [] live) sized) in
    let written : get_or new.frames.live d [] ≡ with_part frame o bytes =
    ap (λ live. get_or live d []) frames ∙ get_or-set_same old.frames.live d (with_part frame o bytes) [] live in
    record {
      written = frame-bytes new (frame_base d + o) d o n sized' refl (omega arith) h ∙ ap (λ list. Some (take n (drop o list))) written ∙ ap
          Some (part-with_part frame o bytes room);
      others = λ a outside. same_byte old new a (frame-others old new d o bytes sized sized' live h frames a outside)
          (same_context old new a context) (same_packet old new a packet);
      frames = ap (λ fs. map length fs) frames ∙ lengths old.frames.live d (with_part frame o bytes) (length-with_part frame o bytes room);
      context = ap length context;
      packet = ap length packet;
      callers = callers;
    }
