-- What a stop may leave in the course of several calls of a disk.
use Rattle.std.specs.Prelude.{◌≡◌, ◌⊎◌, ℕ, suc, ◌+◌, ◌<◌, ◌≤◌, max, List, [], ◌∷◌, ◌++◌, length, take, drop, refl}
use Rattle.std.proofs.Common.{arith, ◌∙◌, sym, ap, inl, inr, ⊎_elim, length-append, length-take, length-drop, append_assoc, subst}
use Rattle.std.proofs.lemmas.List.{get_or-take, get_or-drop, take_at, drop_at}
use Rattle.std.proofs.lemmas.Grind.{same_number_lists}
use Rattle.ge_outside.specs.Images.{length-overwritten, length-overwritten-le}
use Rattle.ge_model_journal.specs.Disk.{Content, IsImage, IsImageNow, IsImageSince, settled_content, content_written, overwritten, told_written, told_synced, read_bytes, IsWithin}

-- A disk that tells holds these bytes, and nothing is pending.
abbrev pub IsQuiet : List Content → List ℕ → Type 0
IsQuiet [] bytes = ⊥
IsQuiet (now ∷ earlier) bytes = now ≡ settled_content bytes

-- What a write of so many bytes at a place may leave, cut short at any moment: any bytes in the range, the same elsewhere.
pub record Torn (at size : ℕ) (old new : List ℕ) : Type 0 where
  pub no_shorter : length old ≤ length new
  pub no_longer : length new ≤ max (length old) (at + size)
  pub front : take at new ≡ take at old
  pub back : drop (at + size) new ≡ drop (at + size) old

-- one of these moments may have left an image
abbrev pub IsImageAmong : List Content → List ℕ → Type 0
IsImageAmong [] image = ⊥
IsImageAmong (now ∷ earlier) image = IsImage now image ⊎ IsImageAmong earlier image

-- From the one to the other a disk had some moments more, and what any of them may have left has a property.
pub record Since (old new : List Content) (Q : List ℕ → Type 0) : Type 0 where
  pub more : List Content
  pub later : new ≡ more ++ old
  pub each : (image : List ℕ) → IsImageAmong more image → Q image

-- a quiet disk reads as its bytes
pub read_bytes-quiet : (told : List Content) (bytes : List ℕ) → IsQuiet told bytes → read_bytes told ≡ bytes
read_bytes-quiet [] bytes quiet = absurd quiet
read_bytes-quiet (now ∷ earlier) bytes quiet = ap (λ c. c.bytes) quiet

-- and a stop leaves just them
pub quiet_image : (told : List Content) (bytes image : List ℕ) → IsQuiet told bytes → IsImageNow told image → image ≡ bytes
quiet_image [] bytes image quiet left = absurd quiet
quiet_image (now ∷ earlier) bytes image quiet left =
    let here = subst (λ c. IsImage c image) quiet left in
    same_number_lists image bytes (omega (arith, here.no_shorter, here.no_longer)) (λ k h. here.kept k (omega (arith, here.no_longer)) tt)

-- what a write over synced bytes may leave
pub torn_image : (bytes : List ℕ) (at : ℕ) (piece image : List ℕ) → at ≤ length bytes
    → IsImage (content_written (settled_content bytes) at piece) image → Torn at (length piece) bytes image
torn_image bytes at piece image within left = record {
  no_shorter = left.no_shorter;
  no_longer = left.no_longer;
  front = same_number_lists (take at image) (take at bytes) (omega (arith, length-take at image, length-take at bytes, left.no_shorter))
      (λ k h. let before : k < at = omega (arith, length-take at image) in
      get_or-take at image k 0 before ∙ left.kept k (omega arith) (inl before, tt) ∙ sym (get_or-take at bytes k 0 before));
  back = same_number_lists (drop (at + length piece) image) (drop (at + length piece) bytes)
      (omega (arith, length-drop (at + length piece) image, length-drop (at + length piece) bytes, left.no_shorter, left.no_longer))
      (λ k h. let there : at + length piece + k < length bytes = omega (arith, length-drop (at + length piece) image, left.no_longer) in
      get_or-drop (at + length piece) image k 0 ∙ left.kept (at + length piece + k) there (inr (omega arith), tt) ∙ sym (get_or-drop (at + length piece) bytes k 0));
}

-- a whole write is such a one
pub torn_whole : (bytes : List ℕ) (at : ℕ) (piece : List ℕ) → at ≤ length bytes → Torn at (length piece) bytes (overwritten bytes at piece)
torn_whole bytes at piece within =
    let front : length (take at bytes) ≡ at = omega (arith, length-take at bytes) in
    let both : length (take at bytes ++ piece) ≡ at + length piece = omega (arith, length-append (take at bytes) piece, front) in
    record {
      no_shorter = length-overwritten bytes at piece;
      no_longer = length-overwritten-le bytes at piece;
      front = take_at (take at bytes) (piece ++ drop (at + length piece) bytes) at front;
      back = rw (← append_assoc (take at bytes) piece (drop (at + length piece) bytes))
          (drop_at (take at bytes ++ piece) (drop (at + length piece) bytes) (at + length piece) both);
    }

-- images among moments in front of others
among-append : (more earlier : List Content) (image : List ℕ) → IsImageAmong (more ++ earlier) image → IsImageAmong more image ⊎ IsImageAmong earlier image
among-append [] earlier image left = inr left
among-append (now ∷ more) earlier image (inl here) = inl (inl here)
among-append (now ∷ more) earlier image (inr there) = ⊎_elim (λ h. inl (inr h)) inr (among-append more earlier image there)

pub since_none : (told : List Content) (Q : List ℕ → Type 0) → Since told told Q
since_none told Q = record { more = []; later = refl; each = λ image left. absurd left }

pub since_same : (old new last : List Content) (Q : List ℕ → Type 0) → Since old new Q → last ≡ new → Since old last Q
since_same old new last Q since same = record { more = since.more; later = same ∙ since.later; each = since.each }

pub since_weaker : (old new : List Content) (Q R : List ℕ → Type 0) → Since old new Q → ((image : List ℕ) → Q image → R image) → Since old new R
since_weaker old new Q R since weaker = record { more = since.more; later = since.later; each = λ image left. weaker image (since.each image left) }

pub since_join : (old mid new : List Content) (Q : List ℕ → Type 0) → Since old mid Q → Since mid new Q → Since old new Q
since_join old mid new Q first second = record {
  more = second.more ++ first.more;
  later = second.later ∙ ap (λ told. second.more ++ told) first.later ∙ sym (append_assoc second.more first.more old);
  each = λ image left. ⊎_elim (second.each image) (first.each image) (among-append second.more first.more image left);
}

-- what a write may have left, also where it failed
pub since_written : (old new : List Content) (at : ℕ) (piece bytes : List ℕ) → IsWithin old at → IsQuiet old bytes
    → new ≡ told_written old at piece → Since old new (Torn at (length piece) bytes)
since_written [] new at piece bytes within quiet written = absurd quiet
since_written (now ∷ earlier) new at piece bytes within quiet written = record {
  more = content_written now at piece ∷ [];
  later = written;
  each = λ image left. ⊎_elim
      (λ here. torn_image bytes at piece image (subst (λ c. at ≤ length c.bytes) quiet within) (subst (λ c. IsImage (content_written c at piece) image) quiet here))
      (λ none. absurd none) left;
}

pub since_failed : (old new : List Content) (at : ℕ) (piece bytes : List ℕ) → IsWithin old at → IsQuiet old bytes
    → (new ≡ old) ⊎ (new ≡ told_written old at piece) → Since old new (Torn at (length piece) bytes)
since_failed old new at piece bytes within quiet (inl stays) = since_same old old new _ (since_none old (Torn at (length piece) bytes)) stays
since_failed old new at piece bytes within quiet (inr written) = since_written old new at piece bytes within quiet written

-- a write and its sync leave a quiet disk
pub quiet_laid : (old mid new : List Content) (at : ℕ) (piece bytes : List ℕ) → IsQuiet old bytes
    → mid ≡ told_written old at piece → new ≡ told_synced mid → IsQuiet new (overwritten bytes at piece)
quiet_laid [] mid new at piece bytes quiet written synced = absurd quiet
quiet_laid (now ∷ earlier) mid new at piece bytes quiet written synced =
    rw (synced, written, quiet) refl

-- and what the two may have left
pub since_laid : (old mid new : List Content) (at : ℕ) (piece bytes : List ℕ) → IsWithin old at → IsQuiet old bytes
    → mid ≡ told_written old at piece → new ≡ told_synced mid → Since old new (Torn at (length piece) bytes)
since_laid [] mid new at piece bytes within quiet written synced = absurd quiet
since_laid (now ∷ earlier) mid new at piece bytes within quiet written synced =
    since_join (now ∷ earlier) mid new (Torn at (length piece) bytes)
    (since_written (now ∷ earlier) mid at piece bytes within quiet written)
    (record {
      more = settled_content (overwritten now.bytes at piece) ∷ [];
      later = synced ∙ rw written refl;
      each = λ image left. ⊎_elim
          (λ here. let whole : image ≡ overwritten bytes at piece =
          quiet_image (settled_content (overwritten now.bytes at piece) ∷ []) (overwritten bytes at piece) image (rw quiet refl) here in
          rw whole (torn_whole bytes at piece (subst (λ c. at ≤ length c.bytes) quiet within)))
          (λ none. absurd none) left;
    })

-- a moment that counts is one of those told
since_start : (start : ℕ) (told : List Content) (image : List ℕ) → IsImageSince start told image → start ≤ length told
since_start start [] image left = absurd left
since_start start (now ∷ earlier) image left = left.0

-- An image since a disk had told the old moments is one of what came after them, or of the last of them.
since-append : (more old : List Content) (image : List ℕ) → IsImageSince (length old) (more ++ old) image
    → IsImageAmong more image ⊎ IsImageNow old image
since-append [] [] image left = absurd left
since-append [] (now ∷ earlier) image left =
    ⊎_elim inr (λ before. let long : suc (length earlier) ≤ length earlier = since_start (suc (length earlier)) earlier image before in absurd (omega (arith, long))) left.1
since-append (now ∷ more) old image left = ⊎_elim (λ here. inl (inl here)) (λ before. ⊎_elim (λ h. inl (inr h)) inr (since-append more old image before)) left.1

pub since_images : (old new : List Content) (Q : List ℕ → Type 0) → Since old new Q → (image : List ℕ)
    → IsImageSince (length old) new image → Q image ⊎ IsImageNow old image
since_images old new Q since image left =
    let among = since-append since.more old image (subst (λ told. IsImageSince (length old) told image) since.later left) in
    ⊎_elim (λ h. inl (since.each image h)) inr among

-- for a disk that was quiet: such an image is what a later moment may have left, or the bytes of then
pub since_quiet : (old new : List Content) (bytes : List ℕ) (Q : List ℕ → Type 0) → IsQuiet old bytes → Since old new Q → Q bytes → (image : List ℕ)
    → IsImageSince (length old) new image → Q image
since_quiet old new bytes Q quiet since here image left =
    ⊎_elim (λ later. later) (λ now. rw (quiet_image old bytes image quiet now) here) (since_images old new Q since image left)

-- overwritten bytes reach as far as the piece
reached-overwritten : (bytes : List ℕ) (at : ℕ) (piece : List ℕ) → at ≤ length bytes → at + length piece ≤ length (overwritten bytes at piece)
reached-overwritten bytes at piece within =
    omega (arith, length-append (take at bytes) (piece ++ drop (at + length piece) bytes), length-append piece (drop (at + length piece) bytes), length-take at bytes)

-- a disk never gets shorter
pub within_written : (old new : List Content) (at : ℕ) (piece : List ℕ) (place : ℕ) → new ≡ told_written old at piece → IsWithin old place → IsWithin new place
within_written [] new at piece place written within = rw written tt
within_written (now ∷ earlier) new at piece place written within =
    rw written (omega (arith, within, length-overwritten now.bytes at piece))

pub within_failed : (old new : List Content) (at : ℕ) (piece : List ℕ) (place : ℕ) → (new ≡ old) ⊎ (new ≡ told_written old at piece)
    → IsWithin old place → IsWithin new place
within_failed old new at piece place (inl stays) within = rw stays within
within_failed old new at piece place (inr written) within = within_written old new at piece place written within

pub within_synced : (old new : List Content) (place : ℕ) → new ≡ told_synced old → IsWithin old place → IsWithin new place
within_synced [] new place synced within = rw synced tt
within_synced (now ∷ earlier) new place synced within = rw synced within

-- a write reaches as far as it goes
pub within_reached : (old new : List Content) (at : ℕ) (piece : List ℕ) → IsWithin old at → new ≡ told_written old at piece → IsWithin new (at + length piece)
within_reached [] new at piece within written = rw written tt
within_reached (now ∷ earlier) new at piece within written = rw written (reached-overwritten now.bytes at piece within)

-- what the one span may have left, or the other
pub since_both : (old mid new : List Content) (Q R : List ℕ → Type 0) → Since old mid Q → Since mid new R → Since old new (λ image. Q image ⊎ R image)
since_both old mid new Q R first second =
    since_join old mid new (λ image. Q image ⊎ R image)
    (since_weaker old mid Q (λ image. Q image ⊎ R image) first (λ image h. inl h))
    (since_weaker mid new R (λ image. Q image ⊎ R image) second (λ image h. inr h))
