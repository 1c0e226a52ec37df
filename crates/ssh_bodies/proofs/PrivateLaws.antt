-- What is read as a private body is spelled so, and what is spelled so is read.
use Rattle.ssh_bodies.proofs.Imports.{◌≡◌, ℕ, ◌+◌, ◌%◌, ◌^◌, ◌<◌, ◌≤◌, Bool, true, false, cond, ltb, eqb, List, [], ◌∷◌, ◌++◌, length, take, Result, Ok, Err, refl, sym, ap, subst, ◌∙◌, append_assoc, arith, codes, ◌&&◌, nat_le, OnOk, w32, concat, bytes_eq, ltb-false, le-ltb, eqb-true, eqb-false, leb-true, le-leb, append-nil, length-append, bytes_eq-Decides, string, uint32, Position, start, ◌>>=◌, number_at, IsBytes, Took, ok_is, fine, string_fits, and_ok, name_short, key_name_of, PublicKey, kind_of, longest, IsKey, BodyError, as_body_error, body_wants, magic_at, last_at, PrivateBody, public_of, private_fields, is_private_in_range, padding, section, private_magic, private_row, least_padding, private_blob, IsPrivateBody, IsPadded, IsPrivateBlob, is_padding}
use Rattle.ssh_wire.specs.Reading.{string_at}
use Rattle.ssh_keys.specs.PublicKey.{key_blob}
use Rattle.ssh_bodies.specs.declared.error.BodyError.TheVariants as errors
use Rattle.ssh_bodies.specs.BodyReading.{key_at}
use Rattle.ssh_bodies.specs.PrivateKey.{section_front, body_padded}
use Rattle.ssh_bodies.specs.PrivateReading.{private_at, section_at, not_encrypted_at, section_start, body_at, private_in}
use Rattle.ssh_bodies.proofs.Steps.{after_step, then_step, wants_ok, joins}
use Rattle.ssh_bodies.proofs.Fields.{Run, run_took, number_took, text_took, number_back, text_back, magic_took, key_took, key_back}
use Rattle.ssh_bodies.proofs.Paddings.{padding-length, padding-seven, least, least_whole, least_few, least_least}
use Rattle.ssh_bodies.proofs.PrivateKeyLaws.{private_took, private_back}
use Rattle.ssh_bodies.proofs.Rows.{onto, onto-is, place_after, are_short}
use Rattle.ssh_bodies.proofs.SshsigLaws.{no_rest}

-- ---- the private section

-- the bytes are a section of this value, which is for this public key
pub record IsSection (public : PublicKey) (bytes : List ℕ) (v : PrivateBody) : Type 0 where
  pub count : ℕ
  pub few : count ≤ 254
  pub spelled : bytes ≡ section v count
  pub check : v.check < 2 ^ 32
  pub half : public_of v.key ≡ public
  pub in_range : is_private_in_range v.key ≡ true

reassociate : (a b c d e f : List ℕ) → a ++ (b ++ (c ++ (d ++ (e ++ f)))) ≡ (a ++ (b ++ (c ++ (d ++ e)))) ++ f
reassociate a b c d e f =
    sym (append_assoc a (b ++ (c ++ (d ++ e))) f ∙ ap (λ (t : List ℕ). a ++ t) (append_assoc b (c ++ (d ++ e)) f ∙ ap (λ (t : List ℕ). b ++ t) (append_assoc c (d ++ e) f ∙ ap (λ (t : List ℕ). c ++ t) (append_assoc d e f))))

pub section_took : (public : PublicKey) (at : Position) (v : PrivateBody) → IsBytes at.rest → section_at public at ≡ Ok v → IsSection public at.rest v
unfolding section_at section_front
section_took public at v fits h =
    after_step (as_body_error (number_at w32 at)) _ v h (λ check read_check h1.
    after_step (as_body_error (number_at w32 check.1)) _ v h1 (λ again read_again h2.
    after_step (body_wants (eqb check.0 again.0) errors.CheckMismatch) _ v h2 (λ u1 is_same h3.
    after_step (as_body_error (string_at again.1)) _ v h3 (λ name read_name h4.
    after_step (body_wants (bytes_eq name.0 (key_name_of (kind_of public))) errors.PublicMismatch) _ v h4 (λ u2 is_named h5.
    after_step (private_at public name.1) _ v h5 (λ key read_key h6.
    after_step (body_wants key.0.1 errors.PublicMismatch) _ v h6 (λ u3 is_half h7.
    after_step (as_body_error (string_at key.1)) _ v h7 (λ comment read_comment h8.
    after_step (body_wants (is_padding (comment.1).rest) errors.Padding) _ v h8 (λ u4 padded h9.
    let t_check = number_took at check fits read_check in
    let t_again = number_took check.1 again t_check.0.rest_fits read_again in
    let same : again.0 ≡ check.0 = sym (eqb-true check.0 again.0 (wants_ok (eqb check.0 again.0) errors.CheckMismatch u1 is_same)) in
    let t_name = text_took again.1 name t_again.0.rest_fits read_name in
    let t_key = private_took public name.1 key t_name.0.rest_fits read_key (wants_ok key.0.1 errors.PublicMismatch u3 is_half) in
    let named : name.0 ≡ key_name_of (kind_of (public_of key.0.0)) =
    (bytes_eq-Decides name.0 (key_name_of (kind_of public))).0 (wants_ok (bytes_eq name.0 (key_name_of (kind_of public))) errors.PublicMismatch u2 is_named) ∙ ap (λ (k : PublicKey). key_name_of (kind_of k)) (sym t_key.half) in
    let t_comment = text_took key.1 comment t_key.took.rest_fits read_comment in
    let rest = (comment.1).rest in
    let pad = and_ok (nat_le (length rest) 254) (bytes_eq rest (padding (length rest))) (wants_ok (is_padding rest) errors.Padding u4 padded) in
    let is_pad : rest ≡ padding (length rest) = (bytes_eq-Decides rest (padding (length rest))).0 pad.1 in
    let made : PrivateBody = record { check = check.0; key = key.0.0; comment = comment.0 } in
    let fields = concat (private_fields key.0.0) in
    let parts : at.rest ≡ uint32 check.0 ++ (uint32 check.0 ++ (string (key_name_of (kind_of (public_of key.0.0))) ++ (fields ++ (string comment.0 ++ padding (length rest))))) =
    joins (uint32 check.0) t_check.0.parts (subst (λ (n : ℕ). (check.1).rest ≡ uint32 n ++ (again.1).rest) same t_again.0.parts ∙ ap (λ (t : List ℕ). uint32 check.0 ++ t)
    (subst (λ (n : List ℕ). (again.1).rest ≡ string n ++ (name.1).rest) named t_name.0.parts ∙ ap (λ (t : List ℕ). string (key_name_of (kind_of (public_of key.0.0))) ++ t)
    (joins fields t_key.took.parts (joins (string comment.0) t_comment.0.parts is_pad)))) in
    subst (λ (y : PrivateBody). IsSection public at.rest y) (ok_is {E = BodyError} made v h9) (record {
      count = length rest;
      few = leb-true (length rest) 254 pad.0;
      spelled = parts ∙ reassociate (uint32 check.0) (uint32 check.0) (string (key_name_of (kind_of (public_of key.0.0)))) fields (string comment.0) (padding (length rest));
      check = t_check.1;
      half = t_key.half;
      in_range = t_key.in_range;
    }))))))))))

pub front_length : (v : PrivateBody) → length (section_front v) ≡ 8 + (length (string (key_name_of (kind_of (public_of v.key)))) + (length (concat (private_fields v.key)) + length (string v.comment)))
unfolding section_front
front_length v =
    let name = string (key_name_of (kind_of (public_of v.key))) in
    let fields = concat (private_fields v.key) in
    omega (arith, length-append (uint32 v.check) (uint32 v.check ++ (name ++ (fields ++ string v.comment))), length-append (uint32 v.check) (name ++ (fields ++ string v.comment)), length-append name (fields ++ string v.comment), length-append fields (string v.comment))

pub is_padding-padding : (count : ℕ) → count ≤ 254 → is_padding (padding count) ≡ true
is_padding-padding count few =
    let len = padding-length 0 count in
    let is_few : nat_le (length (padding count)) 254 ≡ true = le-leb (length (padding count)) 254 (omega (arith, len, few)) in
    let same : bytes_eq (padding count) (padding (length (padding count))) ≡ true = (bytes_eq-Decides (padding count) (padding (length (padding count)))).1 (ap padding (sym len)) in
    rw (is_few, same) refl

pub section_back : (v : PrivateBody) (count place : ℕ) → v.check < 2 ^ 32 → IsKey (public_of v.key) → is_private_in_range v.key ≡ true → count ≤ 254 → length (section_front v) ≤ longest
    → section_at (public_of v.key) (record { place = place; rest = section v count }) ≡ Ok v
unfolding section_at section_front
section_back v count place check_lt is_key in_range few short =
    let name = key_name_of (kind_of (public_of v.key)) in
    let fields = private_fields v.key in
    let r5 = padding count in
    let r4 = string v.comment ++ r5 in
    let r3 = onto fields r4 in
    let r2 = string name ++ r3 in
    let r1 = uint32 v.check ++ r2 in
    let p1 = place + 4 in
    let p2 = p1 + 4 in
    let p3 = p2 + length (string name) in
    let p4 = place_after p3 fields in
    let whole : section v count ≡ uint32 v.check ++ r1 =
    sym (reassociate (uint32 v.check) (uint32 v.check) (string name) (concat fields) (string v.comment) r5) ∙ ap (λ (t : List ℕ). uint32 v.check ++ (uint32 v.check ++ (string name ++ t))) (onto-is fields r4) in
    let comment_lt : length v.comment < 2 ^ 32 = omega (arith, front_length v, short) in
    let fields_short = are_short fields (omega (arith, front_length v, short)) in
    let same : eqb v.check v.check ≡ true = equal_check v.check in
    let named : bytes_eq name name ≡ true = (bytes_eq-Decides name name).1 refl in
    ap (λ (b : List ℕ). section_at (public_of v.key) (record { place = place; rest = b })) whole
    ∙ then_step _ _ _ _ (number_back v.check place r1 check_lt)
    (then_step _ _ _ _ (number_back v.check p1 r2 check_lt)
    (then_step _ _ _ _ (ap (λ (b : Bool). body_wants b errors.CheckMismatch) same)
    (then_step _ _ _ _ (text_back name p2 r3 (name_short (kind_of (public_of v.key))))
    (then_step _ _ _ _ (ap (λ (b : Bool). body_wants b errors.PublicMismatch) named)
    (then_step _ _ _ _ (private_back v.key p3 r4 is_key.in_range in_range fields_short)
    (then_step _ _ _ _ (text_back v.comment p4 r5 comment_lt)
    (then_step _ _ _ _ (ap (λ (b : Bool). body_wants b errors.Padding) (is_padding-padding count few))
    refl)))))))
  where
    equal_check : (n : ℕ) → eqb n n ≡ true
    equal_check n = go (eqb n n) refl
      where
        go : (b : Bool) → eqb n n ≡ b → b ≡ true
        go true e = refl
        go false e = absurd (eqb-false n n e refl)

-- ---- the fields before the section

pub not_encrypted_took : (at : Position) (k : Unit {0} × Position) → IsBytes at.rest → not_encrypted_at at ≡ Ok k → Run (string (codes "none") ∷ string (codes "none") ∷ string [] ∷ []) at k.1
unfolding not_encrypted_at
not_encrypted_took at k fits h =
    after_step (as_body_error (string_at at)) _ k h (λ cipher read_cipher h1.
    after_step (as_body_error (string_at cipher.1)) _ k h1 (λ kdf read_kdf h2.
    after_step (as_body_error (string_at kdf.1)) _ k h2 (λ options read_options h3.
    after_step (body_wants (bytes_eq cipher.0 (codes "none") && (bytes_eq kdf.0 (codes "none") && eqb (length options.0) 0)) errors.Encrypted) _ k h3 (λ u plain h4.
    let t_cipher = text_took at cipher fits read_cipher in
    let t_kdf = text_took cipher.1 kdf t_cipher.0.rest_fits read_kdf in
    let t_options = text_took kdf.1 options t_kdf.0.rest_fits read_options in
    let first = and_ok (bytes_eq cipher.0 (codes "none")) (bytes_eq kdf.0 (codes "none") && eqb (length options.0) 0) (wants_ok (bytes_eq cipher.0 (codes "none") && (bytes_eq kdf.0 (codes "none") && eqb (length options.0) 0)) errors.Encrypted u plain) in
    let second = and_ok (bytes_eq kdf.0 (codes "none")) (eqb (length options.0) 0) first.1 in
    let c : cipher.0 ≡ codes "none" = (bytes_eq-Decides cipher.0 (codes "none")).0 first.0 in
    let d : kdf.0 ≡ codes "none" = (bytes_eq-Decides kdf.0 (codes "none")).0 second.0 in
    let o : options.0 ≡ [] = no_rest options.0 second.1 in
    subst (λ (y : Unit {0} × Position). Run (string (codes "none") ∷ string (codes "none") ∷ string [] ∷ []) at y.1) (ok_is {E = BodyError} (tt, options.1) k h4)
    (cipher.1, subst (λ (t : List ℕ). Took at (string t) cipher.1) c t_cipher.0, (kdf.1, subst (λ (t : List ℕ). Took cipher.1 (string t) kdf.1) d t_kdf.0, (options.1, subst (λ (t : List ℕ). Took kdf.1 (string t) options.1) o t_options.0, refl)))))))

not_encrypted_back : (place : ℕ) (rest : List ℕ)
    → not_encrypted_at (record { place = place; rest = string (codes "none") ++ (string (codes "none") ++ (string [] ++ rest)) }) ≡ Ok (tt, record { place = place + 8 + 8 + 4; rest = rest })
unfolding not_encrypted_at
not_encrypted_back place rest =
    then_step _ _ _ _ (text_back (codes "none") place (string (codes "none") ++ (string [] ++ rest)) (omega arith))
    (then_step _ _ _ _ (text_back (codes "none") (place + 8) (string [] ++ rest) (omega arith))
    (then_step _ _ _ _ (text_back [] (place + 8 + 8) rest (omega arith)) refl))

-- the section's text, to the end
pub record TookSection (at : Position) (inside : Position) : Type 0 where
  pub after : Position
  pub took : Took at (string inside.rest) after
  pub nothing : after.rest ≡ []
  pub whole : length inside.rest % 8 ≡ 0
  pub fits : IsBytes inside.rest
  pub at_text : inside.place ≡ at.place + 4

pub section_start_took : (at : Position) (k : Unit {0} × Position) → IsBytes at.rest → section_start at ≡ Ok k → TookSection at k.1
unfolding section_start
section_start_took at k fits h =
    after_step (as_body_error (string_at at)) _ k h (λ text read_text h1.
    after_step (last_at text.1) _ k h1 (λ u1 is_last h2.
    after_step (body_wants (eqb (length text.0 % 8) 0) errors.NotMultipleOfEight) _ k h2 (λ u2 is_whole h3.
    let t = text_took at text fits read_text in
    subst (λ (y : Unit {0} × Position). TookSection at y.1) (ok_is {E = BodyError} (tt, record { place = at.place + 4; rest = text.0 }) k h3) (record {
      after = text.1;
      took = t.0;
      nothing = no_rest (text.1).rest (wants_ok (eqb (length (text.1).rest) 0) errors.Trailing u1 is_last);
      whole = eqb-true (length text.0 % 8) 0 (wants_ok (eqb (length text.0 % 8) 0) errors.NotMultipleOfEight u2 is_whole);
      fits = string_fits at text.0 text.1 fits t.0;
      at_text = refl;
    }))))

section_start_back : (text : List ℕ) (place : ℕ) → length text < 2 ^ 32 → length text % 8 ≡ 0 → section_start (record { place = place; rest = string text ++ [] }) ≡ Ok (tt, record { place = place + 4; rest = text })
unfolding section_start
section_start_back text place lt whole =
    then_step _ _ _ _ (text_back text place [] lt)
    (ap (λ (n : ℕ). body_wants (eqb n 0) errors.NotMultipleOfEight >>= λ u. fine (tt, record { place = place + 4; rest = text })) whole)

-- ---- a whole body

record Lays (bytes : List ℕ) (v : PrivateBody) : Type 0 where
  count : ℕ
  few : count ≤ 254
  spelled : bytes ≡ concat (private_row (public_of v.key, section v count))
  whole : length (section v count) % 8 ≡ 0
  check : v.check < 2 ^ 32
  public : IsKey (public_of v.key)
  in_range : is_private_in_range v.key ≡ true

lays : (bytes : List ℕ) (v : PrivateBody) → IsBytes bytes → body_at (start bytes) ≡ Ok v → Lays bytes v
unfolding body_at
lays bytes v fits h =
    after_step (magic_at private_magic (start bytes)) _ v h (λ magic read_magic h1.
    after_step (not_encrypted_at magic.1) _ v h1 (λ plain read_plain h2.
    after_step (as_body_error (number_at w32 plain.1)) _ v h2 (λ count read_count h3.
    after_step (body_wants (eqb count.0 1) errors.KeyCount) _ v h3 (λ u1 is_one h4.
    after_step (key_at count.1) _ v h4 (λ public read_public h5.
    after_step (section_start public.1) _ v h5 (λ inside read_inside h6.
    let t_magic = magic_took private_magic (start bytes) magic fits read_magic in
    let t_plain = not_encrypted_took magic.1 plain t_magic.rest_fits read_plain in
    let plain_fits = (run_took (string (codes "none") ∷ string (codes "none") ∷ string [] ∷ []) magic.1 plain.1 t_magic.rest_fits t_plain).rest_fits in
    let t_count = number_took plain.1 count plain_fits read_count in
    let one : count.0 ≡ 1 = eqb-true count.0 1 (wants_ok (eqb count.0 1) errors.KeyCount u1 is_one) in
    let t_public = key_took count.1 public t_count.0.rest_fits read_public in
    let t_inside = section_start_took public.1 inside t_public.0.rest_fits read_inside in
    let s = section_took public.0 inside.1 v t_inside.fits h6 in
    let run : Run (private_row (public.0, (inside.1).rest)) (start bytes) t_inside.after =
    (magic.1, t_magic, (t_plain.0, t_plain.1, (t_plain.2.0, t_plain.2.1, (t_plain.2.2.0, t_plain.2.2.1, (count.1, subst (λ (n : ℕ). Took (t_plain.2.2.0) (uint32 n) count.1) one (subst (λ (p : Position). Took p (uint32 count.0) count.1) (sym t_plain.2.2.2) t_count.0), (public.1, t_public.0, (t_inside.after, t_inside.took, refl))))))) in
    let t = run_took (private_row (public.0, (inside.1).rest)) (start bytes) t_inside.after fits run in
    let spelled : bytes ≡ concat (private_row (public.0, (inside.1).rest)) =
    t.parts ∙ ap (λ (r : List ℕ). concat (private_row (public.0, (inside.1).rest)) ++ r) t_inside.nothing ∙ append-nil (concat (private_row (public.0, (inside.1).rest))) in
    record {
      count = s.count;
      few = s.few;
      spelled = spelled ∙ ap (λ (k : PublicKey). concat (private_row (k, (inside.1).rest))) (sym s.half) ∙ ap (λ (b : List ℕ). concat (private_row (public_of v.key, b))) s.spelled;
      whole = ap (λ (b : List ℕ). length b % 8) (sym s.spelled) ∙ t_inside.whole;
      check = s.check;
      public = subst (λ (k : PublicKey). IsKey k) (sym s.half) t_public.1;
      in_range = s.in_range;
    }))))))

row_length : (key : PublicKey) (text : List ℕ) → length (concat (private_row (key, text))) ≡ 39 + (length (string (key_blob key)) + (4 + length text))
row_length key text = omega (arith, length-append (string (key_blob key)) (string text ++ []), length-append (string text) [])

section_length : (v : PrivateBody) (count : ℕ) → length (section v count) ≡ length (section_front v) + count
section_length v count = omega (arith, length-append (section_front v) (padding count), padding-length 0 count)

pub body_length : (v : PrivateBody) (count : ℕ) → length (body_padded v count) ≡ 39 + (length (string (key_blob (public_of v.key))) + (4 + (length (section_front v) + count)))
unfolding body_padded
body_length v count = omega (arith, row_length (public_of v.key) (section v count), section_length v count)

-- the least padding is enough, and no other is shorter
pub least_is_padded : (v : PrivateBody) → IsPadded v (least_padding v)
least_is_padded v = ap (λ (n : ℕ). n % 8) (section_length v (least_padding v)) ∙ least_whole (length (section_front v))

pub padded_is_more : (v : PrivateBody) (count : ℕ) → IsPadded v count → least_padding v ≤ count
padded_is_more v count padded = least_least (length (section_front v)) count (ap (λ (n : ℕ). n % 8) (sym (section_length v count)) ∙ padded)

-- ---- a body is one of what is read

-- what is read is a body of the value
pub private_takes : (bytes : List ℕ) (v : PrivateBody) → IsBytes bytes → private_in bytes ≡ Ok v → IsPrivateBlob v bytes
unfolding private_in body_padded
private_takes bytes v fits e = go (ltb longest (length bytes)) refl e
  where
    go : (b : Bool) → ltb longest (length bytes) ≡ b → cond b (Err errors.TooLong) (body_at (start bytes)) ≡ Ok v → IsPrivateBlob v bytes
    go true h f = absurd cc
    go false h f =
        let l = lays bytes v fits f in
        let short : length bytes ≤ longest = ltb-false longest (length bytes) h in
        let fewer = padded_is_more v l.count l.whole in
        record {
          is_body = record { check = l.check; public = l.public; private = l.in_range; length = omega (arith, short, ap length l.spelled, fewer, body_length v l.count, body_length v (least_padding v)) };
          count = l.count;
          few = l.few;
          whole = l.whole;
          short = short;
          spelled = l.spelled;
        }

lays_again : (v : PrivateBody) (count : ℕ) → IsPrivateBody v → count ≤ 254 → IsPadded v count → length (body_padded v count) ≤ longest → body_at (start (body_padded v count)) ≡ Ok v
unfolding body_at body_padded
lays_again v count is few padded short =
    let text = section v count in
    let r1 = uint32 1 ++ (string (key_blob (public_of v.key)) ++ (string text ++ [])) in
    let front_short : length (section_front v) ≤ longest = omega (arith, short, body_length v count) in
    let text_lt : length text < 2 ^ 32 = omega (arith, short, body_length v count, section_length v count) in
    then_step (not_encrypted_at (record { place = 15; rest = string (codes "none") ++ (string (codes "none") ++ (string [] ++ r1)) })) _ (λ plain. as_body_error (number_at w32 plain.1) >>= λ count. body_wants (eqb count.0 1) errors.KeyCount >>= λ u. key_at count.1 >>= λ public. section_start public.1 >>= λ inside. section_at public.0 inside.1) _ (not_encrypted_back 15 r1)
    (then_step _ _ _ _ (number_back 1 35 (string (key_blob (public_of v.key)) ++ (string text ++ [])) (omega arith))
    (then_step (key_at (record { place = 39; rest = string (key_blob (public_of v.key)) ++ (string text ++ []) })) _ (λ public. section_start public.1 >>= λ inside. section_at public.0 inside.1) _ (key_back (public_of v.key) 39 (string text ++ []) is.public)
    (then_step _ _ _ _ (section_start_back text (39 + length (string (key_blob (public_of v.key)))) text_lt padded)
    (section_back v count (39 + length (string (key_blob (public_of v.key))) + 4) is.check is.public is.private few front_short))))

-- a body, with any padding, is read as its value
pub private_again : (v : PrivateBody) (bytes : List ℕ) → IsPrivateBlob v bytes → private_in bytes ≡ Ok v
unfolding private_in
private_again v bytes is =
    let short : ltb longest (length bytes) ≡ false = le-ltb longest (length bytes) is.short in
    rw short (ap (λ (b : List ℕ). body_at (start b)) is.spelled ∙ lays_again v is.count is.is_body is.few is.whole (subst (λ (b : List ℕ). length b ≤ longest) is.spelled is.short))

-- a value that is read is the one whose body it is
pub private_only : (bytes : List ℕ) (found v : PrivateBody) → private_in bytes ≡ Ok found → IsPrivateBlob v bytes → found ≡ v
private_only bytes found v given blob = ok_is {E = BodyError} found v (sym given ∙ private_again v bytes blob)

-- bytes that are refused are not a body
pub private_refused : (bytes : List ℕ) (e : BodyError) (v : PrivateBody) → private_in bytes ≡ Err e → IsPrivateBlob v bytes → ⊥
private_refused bytes e v given blob = let read : private_in bytes ≡ Ok v = private_again v bytes blob in cc

-- what is written is a body
pub least_is_body : (v : PrivateBody) → IsPrivateBody v → IsPrivateBlob v (private_blob v)
least_is_body v is =
    let few = least_few (length (section_front v)) in
    record { is_body = is; count = least_padding v; few = omega (arith, few); whole = least_is_padded v; short = is.length; spelled = refl }

-- ---- a body as it is written

shape : (old m a b c d e f g h : List ℕ) → (((old ++ m) ++ ((a ++ (b ++ (c ++ d))) ++ (e ++ f))) ++ g) ++ h ≡ old ++ (m ++ (a ++ (b ++ (c ++ (d ++ (e ++ ((f ++ (g ++ h)) ++ [])))))))
shape old m a b c d e f g h =
    let q = a ++ (b ++ (c ++ d)) in
    let z = e ++ ((f ++ (g ++ h)) ++ []) in
    let inner : (q ++ (e ++ f)) ++ (g ++ h) ≡ q ++ z =
    append_assoc q (e ++ f) (g ++ h) ∙ ap (λ (t : List ℕ). q ++ t) (append_assoc e f (g ++ h)) ∙ ap (λ (t : List ℕ). q ++ (e ++ t)) (sym (append-nil (f ++ (g ++ h)))) in
    let front : q ++ z ≡ a ++ (b ++ (c ++ (d ++ z))) = append_assoc a (b ++ (c ++ d)) z ∙ ap (λ (t : List ℕ). a ++ t) (append_assoc b (c ++ d) z ∙ ap (λ (t : List ℕ). b ++ t) (append_assoc c d z)) in
    append_assoc ((old ++ m) ++ (q ++ (e ++ f))) g h ∙ append_assoc (old ++ m) (q ++ (e ++ f)) (g ++ h) ∙ append_assoc old m ((q ++ (e ++ f)) ++ (g ++ h)) ∙ ap (λ (t : List ℕ). old ++ (m ++ t)) (inner ∙ front)

pub wrote_private : (v : PrivateBody) (old o1 o2 o3 new blob text : List ℕ) → o1 ≡ old ++ private_magic
    → o2 ≡ o1 ++ ((string (codes "none") ++ (string (codes "none") ++ (string [] ++ uint32 1))) ++ (string blob ++ uint32 (length text + least (length text))))
    → blob ≡ key_blob (public_of v.key) → text ≡ section_front v → o3 ≡ o2 ++ text → new ≡ o3 ++ take (least (length text)) (1 ∷ 2 ∷ 3 ∷ 4 ∷ 5 ∷ 6 ∷ 7 ∷ []) → new ≡ old ++ private_blob v
unfolding body_padded
wrote_private v old o1 o2 o3 new blob text e1 e2 is_key is_front e3 e4 =
    let none = string (codes "none") in
    let pad = take (least (length text)) (1 ∷ 2 ∷ 3 ∷ 4 ∷ 5 ∷ 6 ∷ 7 ∷ []) in
    let n = length text + least (length text) in
    let tail = λ (b : List ℕ) (k : ℕ) (s : List ℕ). old ++ (private_magic ++ (none ++ (none ++ (string [] ++ (uint32 1 ++ (string b ++ ((uint32 k ++ s) ++ []))))))) in
    let parts : new ≡ tail blob n (text ++ pad) =
    e4 ∙ ap (λ (t : List ℕ). t ++ pad) (e3 ∙ ap (λ (t : List ℕ). t ++ text) (e2 ∙ ap (λ (t : List ℕ). t ++ ((none ++ (none ++ (string [] ++ uint32 1))) ++ (string blob ++ uint32 n))) e1))
    ∙ shape old private_magic none none (string []) (uint32 1) (string blob) (uint32 n) text pad in
    let few = least_few (length text) in
    let whole : text ++ pad ≡ section v (least_padding v) =
    ap (λ (t : List ℕ). text ++ t) (padding-seven (least (length text)) few) ∙ ap (λ (t : List ℕ). t ++ padding (least (length t))) is_front in
    let len : n ≡ length (section v (least_padding v)) = ap (λ (t : List ℕ). length t + least (length t)) is_front ∙ sym (section_length v (least_padding v)) in
    parts ∙ ap (λ (b : List ℕ). tail b n (text ++ pad)) is_key ∙ ap (λ (k : ℕ). tail (key_blob (public_of v.key)) k (text ++ pad)) len
    ∙ ap (λ (s : List ℕ). tail (key_blob (public_of v.key)) (length (section v (least_padding v))) s) whole

-- the same, where the blob of the key is written after its length
pub wrote_in_turn : (v : PrivateBody) (old o1 o2 o3 o4 o5 new blob : List ℕ) (k n : ℕ) → o1 ≡ old ++ private_magic
    → o2 ≡ o1 ++ ((string (codes "none") ++ (string (codes "none") ++ (string [] ++ uint32 1))) ++ uint32 k) → k ≡ length blob → o3 ≡ o2 ++ blob
    → o4 ≡ o3 ++ uint32 n → n ≡ length (section_front v) + least_padding v → blob ≡ key_blob (public_of v.key)
    → o5 ≡ o4 ++ section_front v → new ≡ o5 ++ take (least_padding v) (1 ∷ 2 ∷ 3 ∷ 4 ∷ 5 ∷ 6 ∷ 7 ∷ []) → new ≡ old ++ private_blob v
wrote_in_turn v old o1 o2 o3 o4 o5 new blob k n e1 e2 is_k e3 e4 is_n is_key e5 e6 =
    let q = string (codes "none") ++ (string (codes "none") ++ (string [] ++ uint32 1)) in
    let parts : o4 ≡ o1 ++ (q ++ ((uint32 k ++ blob) ++ uint32 n)) =
    e4 ∙ ap (λ (t : List ℕ). t ++ uint32 n) (e3 ∙ ap (λ (t : List ℕ). t ++ blob) e2) ∙ regroup o1 q (uint32 k) blob (uint32 n) in
    let whole : o4 ≡ o1 ++ (q ++ (string blob ++ uint32 (length (section_front v) + least (length (section_front v))))) =
    parts ∙ ap (λ (i : ℕ). o1 ++ (q ++ ((uint32 i ++ blob) ++ uint32 n))) is_k ∙ ap (λ (i : ℕ). o1 ++ (q ++ (string blob ++ uint32 i))) is_n in
    wrote_private v old o1 o4 o5 new blob (section_front v) e1 whole is_key refl e5 e6
  where
    regroup : (a q x b n : List ℕ) → ((a ++ (q ++ x)) ++ b) ++ n ≡ a ++ (q ++ ((x ++ b) ++ n))
    regroup a q x b n =
        append_assoc (a ++ (q ++ x)) b n ∙ append_assoc a (q ++ x) (b ++ n) ∙ ap (λ (t : List ℕ). a ++ t) (append_assoc q x (b ++ n) ∙ ap (λ (t : List ℕ). q ++ t) (sym (append_assoc x b n)))

-- the front of the section, as it is written
pub wrote_front : {E : Type 0} (r : Result (Unit {0}) E) (v : PrivateBody) (old o1 o2 new name : List ℕ) → o1 ≡ old ++ (uint32 v.check ++ (uint32 v.check ++ string name)) → name ≡ key_name_of (kind_of (public_of v.key))
    → o2 ≡ o1 ++ concat (private_fields v.key) → OnOk r (new ≡ o2 ++ string v.comment) → OnOk r (new ≡ old ++ section_front v)
unfolding section_front
wrote_front r v old o1 o2 new name e1 named e2 h =
    let number = uint32 v.check in
    let fields = concat (private_fields v.key) in
    let comment = string v.comment in
    let whole : o2 ++ comment ≡ old ++ (number ++ (number ++ (string (key_name_of (kind_of (public_of v.key))) ++ (fields ++ comment)))) =
    ap (λ (t : List ℕ). t ++ comment) (e2 ∙ ap (λ (t : List ℕ). t ++ fields) (e1 ∙ ap (λ (n : List ℕ). old ++ (number ++ (number ++ string n))) named))
    ∙ regroup old number (string (key_name_of (kind_of (public_of v.key)))) fields comment in
    subst (λ (t : List ℕ). OnOk r (new ≡ t)) whole h
  where
    regroup : (o a n f c : List ℕ) → ((o ++ (a ++ (a ++ n))) ++ f) ++ c ≡ o ++ (a ++ (a ++ (n ++ (f ++ c))))
    regroup o a n f c =
        append_assoc (o ++ (a ++ (a ++ n))) f c ∙ append_assoc o (a ++ (a ++ n)) (f ++ c) ∙ ap (λ (t : List ℕ). o ++ t) (append_assoc a (a ++ n) (f ++ c) ∙ ap (λ (t : List ℕ). a ++ t) (append_assoc a n (f ++ c)))
