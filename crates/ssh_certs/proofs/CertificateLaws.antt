-- What is read as a certificate is spelled so, and what is spelled so is read.
use Rattle.ssh_certs.proofs.Imports.{◌≡◌, ℕ, ◌+◌, ◌-◌, ◌^◌, ◌<◌, ◌≤◌, Bool, true, false, cond, ltb, List, [], ◌∷◌, ◌++◌, length, take, Result, Ok, Err, refl, sym, ap, subst, ◌∙◌, append_assoc, arith, codes, find, None, w32, w64, concat, AllByRecursion, bytes_eq, ltb-false, le-ltb, append-nil, length-append, take_at, concat-append, bytes_eq-Decides, string, uint32, uint64, Position, start, ◌>>=◌, Read, number_at, end_at, IsBytes, Took, wide32, wide64, bind_ok, ok_is, fine, number_takes, number_again, string_takes, string_again, string_fits, KeyKind, Rsa, P256, P384, P521, Ed25519, SkP256, SkEd25519, key_name_of, certificate_name_of, class_of, class_by, kinds, PublicKey, kind_of, fields_of, is_in_range, longest, IsKey, ReadKey, fields_take, fields_again, key_takes, key_again, Signature, IsSignature, signature_takes, signature_again, CertError, Certificate, CertOption, packed_names, packed_options, rest_row, signed_row, IsCertificate, IsCertificateBlob, as_fault, as_cert_error, certified_kind_from, names_at, options_at, signer_fault, cert_option_at}
use Rattle.std.specs.Prelude.{Option, Some}
use Rattle.ssh_wire.specs.Reading.{string_at}
use Rattle.ssh_keys.specs.Names.{plain_kind, certificate_kind}
use Rattle.ssh_keys.specs.PublicKey.{key_blob}
use Rattle.ssh_keys.specs.KeyReading.{fields_at, key_in}
use Rattle.ssh_keys.specs.Signature.{signature_blob, signature_in}
use Rattle.ssh_certs.specs.declared.reading.CertError.TheVariants as errors
use Rattle.ssh_certs.specs.Certificate.{signed_part, certificate_blob}
use Rattle.ssh_certs.specs.CertificateReading.{signer_at, cert_signature_at, certificate_at, certificate_in}
use Rattle.ssh_certs.proofs.Items.{FitsString, FitsOption, string_item, option_item, spelled_option}
use Rattle.ssh_certs.proofs.PackedLists.{as_fault_ok, packed_takes, packed_again, all_fit}

-- ---- the blob by its parts

-- the fields one after the other
abbrev pub laid_out : Certificate → List ℕ
laid_out c = string (certificate_name_of (kind_of c.key)) ++ (string c.nonce ++ (concat (fields_of c.key) ++ (uint64 c.serial ++ (uint32 c.kind_number ++ (string c.key_id
    ++ (string (packed_names c.principals) ++ (uint64 c.after ++ (uint64 c.before ++ (string (packed_options c.critical) ++ (string (packed_options c.extensions)
    ++ (string c.reserved ++ (string (key_blob c.signer) ++ (string (signature_blob c.signature) ++ [])))))))))))))

pub laid_out_is : (c : Certificate) → certificate_blob c ≡ laid_out c
unfolding certificate_blob
laid_out_is c =
    let last = string (signature_blob c.signature) ∷ [] in
    let front = λ (t : List ℕ). string (certificate_name_of (kind_of c.key)) ++ (string c.nonce ++ t) in
    ap (λ (rows : List (List ℕ)). front (concat rows)) (append_assoc (fields_of c.key) (rest_row c) last) ∙ ap front (concat-append (fields_of c.key) (rest_row c ++ last))

-- the blob is what the signer signed, and the signature's string
pub blob_is_signed : (c : Certificate) → certificate_blob c ≡ signed_part c ++ string (signature_blob c.signature)
unfolding certificate_blob signed_part
blob_is_signed c = concat-append (signed_row c) (string (signature_blob c.signature) ∷ []) ∙ ap (λ (t : List ℕ). concat (signed_row c) ++ t) (append-nil (string (signature_blob c.signature)))

-- the blob up to the signature's string
pub signed_front : (c : Certificate) (blob inner : List ℕ) → blob ≡ certificate_blob c → inner ≡ signature_blob c.signature
    → (4 + length inner ≤ length blob) × (take (length blob - (4 + length inner)) blob ≡ signed_part c)
signed_front c blob inner spelled is_inner =
    let parts : blob ≡ signed_part c ++ string (signature_blob c.signature) = spelled ∙ blob_is_signed c in
    let long : length blob ≡ length (signed_part c) + (4 + length inner) = omega (arith, ap length parts, length-append (signed_part c) (string (signature_blob c.signature)), ap length is_inner) in
    let signed : length (signed_part c) ≡ length blob - (4 + length inner) = omega arith in
    (omega arith, ap (λ (b : List ℕ). take (length blob - (4 + length inner)) b) parts ∙ take_at (signed_part c) (string (signature_blob c.signature)) (length blob - (4 + length inner)) signed)

-- ---- names

find_some : {A : Type 0} (p : A → Bool) (xs : List A) (x : A) → find p xs ≡ Some x → p x ≡ true
find_some p [] x e = absurd cc
find_some p (y ∷ ys) x e = go (λ f. find_some p ys x f) (p y) refl e
  where
    go : (find p ys ≡ Some x → p x ≡ true) → (b : Bool) → p y ≡ b → cond b (Some y) (find p ys) ≡ Some x → p x ≡ true
    go deep true h f = let same : y ≡ x = cc in ap p (sym same) ∙ h
    go deep false h f = deep f

class_certificate : (a b : Option KeyKind) (r : Bool) (kind : KeyKind) → certified_kind_from (class_by a b r) ≡ Ok kind → b ≡ Some kind
class_certificate (Some k) b r kind e = absurd cc
class_certificate None (Some k) r kind e = cc
class_certificate None None true kind e = absurd cc
class_certificate None None false kind e = absurd cc

pub kind_named : (name : List ℕ) (kind : KeyKind) → certified_kind_from (class_of name) ≡ Ok kind → name ≡ certificate_name_of kind
unfolding certificate_kind
kind_named name kind e =
    sym ((bytes_eq-Decides (certificate_name_of kind) name).0 (find_some (λ k. bytes_eq (certificate_name_of k) name) kinds kind
    (class_certificate (plain_kind name) (certificate_kind name) (bytes_eq name (codes "ssh-dss")) kind e)))

pub named_kind : (kind : KeyKind) → certified_kind_from (class_of (certificate_name_of kind)) ≡ Ok kind
unfolding plain_kind certificate_kind
named_kind Rsa = refl
named_kind P256 = refl
named_kind P384 = refl
named_kind P521 = refl
named_kind Ed25519 = refl
named_kind SkP256 = refl
named_kind SkEd25519 = refl

-- ---- the signature key and the signature

pub signer_takes : (at : Position) (key : PublicKey) (after : Position) → IsBytes at.rest → signer_at at ≡ Ok (key, after) → Took at (string (key_blob key)) after × IsKey key
unfolding signer_at
signer_takes at key after fits e =
    let a = bind_ok (as_cert_error (string_at at)) (λ blob. as_fault signer_fault (key_in blob.0) >>= λ key. fine (key, blob.1)) (key, after) e in
    let b = bind_ok (as_fault signer_fault (key_in a.0.0)) (λ key. fine (key, a.0.1)) (key, after) a.2 in
    let t = string_takes at a.0.0 a.0.1 fits (as_fault_ok errors.Wire (string_at at) a.0 a.1) in
    let is = key_takes a.0.0 b.0 (string_fits at a.0.0 a.0.1 fits t.0) (as_fault_ok signer_fault (key_in a.0.0) b.0 b.1) in
    subst (λ (y : PublicKey × Position). Took at (string (key_blob y.0)) y.1 × IsKey y.0) (ok_is {E = CertError} (b.0, a.0.1) (key, after) b.2)
    (subst (λ (text : List ℕ). Took at (string text) a.0.1) is.spelled t.0, is.is_key)

signer_again : (key : PublicKey) (place : ℕ) (rest : List ℕ) → IsKey key
    → signer_at (record { place = place; rest = string (key_blob key) ++ rest }) ≡ Ok (key, record { place = place + length (string (key_blob key)); rest = rest })
unfolding signer_at
signer_again key place rest is = rw (string_again (key_blob key) place rest (omega (arith, is.length)), key_again key is) refl

pub signature_at_takes : (at : Position) (s : Signature) (after : Position) → IsBytes at.rest → cert_signature_at at ≡ Ok (s, after) → Took at (string (signature_blob s)) after × IsSignature s
unfolding cert_signature_at
signature_at_takes at s after fits e =
    let a = bind_ok (as_cert_error (string_at at)) (λ blob. as_fault errors.Signature (signature_in blob.0) >>= λ s. fine (s, blob.1)) (s, after) e in
    let b = bind_ok (as_fault errors.Signature (signature_in a.0.0)) (λ s. fine (s, a.0.1)) (s, after) a.2 in
    let t = string_takes at a.0.0 a.0.1 fits (as_fault_ok errors.Wire (string_at at) a.0 a.1) in
    let is = signature_takes a.0.0 b.0 (string_fits at a.0.0 a.0.1 fits t.0) (as_fault_ok errors.Signature (signature_in a.0.0) b.0 b.1) in
    subst (λ (y : Signature × Position). Took at (string (signature_blob y.0)) y.1 × IsSignature y.0) (ok_is {E = CertError} (b.0, a.0.1) (s, after) b.2)
    (subst (λ (text : List ℕ). Took at (string text) a.0.1) is.spelled t.0, is.is_signature)

signature_at_again : (s : Signature) (place : ℕ) (rest : List ℕ) → IsSignature s
    → cert_signature_at (record { place = place; rest = string (signature_blob s) ++ rest }) ≡ Ok (s, record { place = place + length (string (signature_blob s)); rest = rest })
unfolding cert_signature_at
signature_at_again s place rest is = rw (string_again (signature_blob s) place rest (omega (arith, is.length)), signature_again s is) refl

-- ---- a whole blob

-- bytes that lay out a certificate whose fields are in their ranges
record Lays (bytes : List ℕ) (c : Certificate) : Type 0 where
  spelled : bytes ≡ laid_out c
  key : is_in_range c.key ≡ true
  serial : c.serial < 2 ^ 64
  kind_number : c.kind_number < 2 ^ 32
  after : c.after < 2 ^ 64
  before : c.before < 2 ^ 64
  signer : IsKey c.signer
  signature : IsSignature c.signature

ended : (place : ℕ) (rest : List ℕ) (u : Unit {0}) → end_at (record { place = place; rest = rest }) ≡ Ok u → rest ≡ []
ended place [] u e = refl
ended place (b ∷ rest) u e = absurd cc

-- a step that did not fail, and what follows it
after_step : {A B E P : Type 0} (r : Result A E) (f : A → Result B E) (y : B) → (r >>= f) ≡ Ok y → ((x : A) → r ≡ Ok x → f x ≡ Ok y → P) → P
after_step (Ok x) f y e go = go x refl e
after_step (Err d) f y e go = absurd cc

-- the bytes after a text, spelled further
joins : (x : List ℕ) {a b c : List ℕ} → a ≡ x ++ b → b ≡ c → a ≡ x ++ c
joins x e g = e ∙ ap (λ (t : List ℕ). x ++ t) g

lays : (bytes : List ℕ) (c : Certificate) → IsBytes bytes → certificate_at (start bytes) ≡ Ok c → Lays bytes c
unfolding certificate_at
lays bytes c fits e =
    after_step (as_cert_error (string_at (start bytes))) _ c e (λ name read_name e1.
    after_step (certified_kind_from (class_of name.0)) _ c e1 (λ kind read_kind e2.
    after_step (as_cert_error (string_at name.1)) _ c e2 (λ nonce read_nonce e3.
    after_step (as_fault errors.Key (fields_at kind nonce.1)) _ c e3 (λ key read_key e4.
    after_step (as_cert_error (number_at w64 key.1)) _ c e4 (λ serial read_serial e5.
    after_step (as_cert_error (number_at w32 serial.1)) _ c e5 (λ kind_number read_kind_number e6.
    after_step (as_cert_error (string_at kind_number.1)) _ c e6 (λ key_id read_key_id e7.
    after_step (names_at key_id.1) _ c e7 (λ principals read_principals e8.
    after_step (as_cert_error (number_at w64 principals.1)) _ c e8 (λ after read_after e9.
    after_step (as_cert_error (number_at w64 after.1)) _ c e9 (λ before read_before e10.
    after_step (options_at before.1) _ c e10 (λ critical read_critical e11.
    after_step (options_at critical.1) _ c e11 (λ extensions read_extensions e12.
    after_step (as_cert_error (string_at extensions.1)) _ c e12 (λ reserved read_reserved e13.
    after_step (signer_at reserved.1) _ c e13 (λ signer read_signer e14.
    after_step (cert_signature_at signer.1) _ c e14 (λ signature read_signature e15.
    after_step (as_cert_error (end_at signature.1)) _ c e15 (λ u read_end e16.
    let t_name = string_takes (start bytes) name.0 name.1 fits (as_fault_ok errors.Wire (string_at (start bytes)) name read_name) in
    let t_nonce = string_takes name.1 nonce.0 nonce.1 t_name.0.rest_fits (as_fault_ok errors.Wire (string_at name.1) nonce read_nonce) in
    let t_key = fields_take kind nonce.1 key.0 key.1 t_nonce.0.rest_fits (as_fault_ok errors.Key (fields_at kind nonce.1) key read_key) in
    let t_serial = number_takes w64 (2 ^ 64) wide64 key.1 serial.0 serial.1 t_key.took.rest_fits (as_fault_ok errors.Wire (number_at w64 key.1) serial read_serial) in
    let t_kind_number = number_takes w32 (2 ^ 32) wide32 serial.1 kind_number.0 kind_number.1 t_serial.0.rest_fits (as_fault_ok errors.Wire (number_at w32 serial.1) kind_number read_kind_number) in
    let t_key_id = string_takes kind_number.1 key_id.0 key_id.1 t_kind_number.0.rest_fits (as_fault_ok errors.Wire (string_at kind_number.1) key_id read_key_id) in
    let t_principals = packed_takes string FitsString string_at string_item errors.Principals key_id.1 principals.0 principals.1 t_key_id.0.rest_fits read_principals in
    let t_after = number_takes w64 (2 ^ 64) wide64 principals.1 after.0 after.1 t_principals.rest_fits (as_fault_ok errors.Wire (number_at w64 principals.1) after read_after) in
    let t_before = number_takes w64 (2 ^ 64) wide64 after.1 before.0 before.1 t_after.0.rest_fits (as_fault_ok errors.Wire (number_at w64 after.1) before read_before) in
    let t_critical = packed_takes spelled_option FitsOption cert_option_at option_item errors.Options before.1 critical.0 critical.1 t_before.0.rest_fits read_critical in
    let t_extensions = packed_takes spelled_option FitsOption cert_option_at option_item errors.Options critical.1 extensions.0 extensions.1 t_critical.rest_fits read_extensions in
    let t_reserved = string_takes extensions.1 reserved.0 reserved.1 t_extensions.rest_fits (as_fault_ok errors.Wire (string_at extensions.1) reserved read_reserved) in
    let t_signer = signer_takes reserved.1 signer.0 signer.1 t_reserved.0.rest_fits read_signer in
    let t_signature = signature_at_takes signer.1 signature.0 signature.1 t_signer.0.rest_fits read_signature in
    let nothing : (signature.1).rest ≡ [] = ended (signature.1).place (signature.1).rest u (as_fault_ok errors.Wire (end_at signature.1) u read_end) in
    let named : name.0 ≡ certificate_name_of (kind_of key.0) = kind_named name.0 kind read_kind ∙ ap certificate_name_of (sym t_key.kind) in
    let last : (signer.1).rest ≡ string (signature_blob signature.0) ++ [] = joins (string (signature_blob signature.0)) t_signature.0.parts nothing in
    let terms : (key.1).rest ≡ uint64 serial.0 ++ (uint32 kind_number.0 ++ (string key_id.0 ++ (string (packed_names principals.0) ++ (uint64 after.0 ++ (uint64 before.0 ++ (string (packed_options critical.0) ++ (string (packed_options extensions.0) ++ (string reserved.0 ++ (string (key_blob signer.0) ++ (string (signature_blob signature.0) ++ [])))))))))) =
    joins (uint64 serial.0) t_serial.0.parts (joins (uint32 kind_number.0) t_kind_number.0.parts (joins (string key_id.0) t_key_id.0.parts (joins (string (packed_names principals.0)) t_principals.parts
    (joins (uint64 after.0) t_after.0.parts (joins (uint64 before.0) t_before.0.parts (joins (string (packed_options critical.0)) t_critical.parts (joins (string (packed_options extensions.0)) t_extensions.parts
    (joins (string reserved.0) t_reserved.0.parts (joins (string (key_blob signer.0)) t_signer.0.parts last))))))))) in
    let whole = joins (string name.0) t_name.0.parts (joins (string nonce.0) t_nonce.0.parts (joins (concat (fields_of key.0)) t_key.took.parts terms)) in
    let made : Certificate = record {
      nonce = nonce.0;
      key = key.0;
      serial = serial.0;
      kind_number = kind_number.0;
      key_id = key_id.0;
      principals = principals.0;
      after = after.0;
      before = before.0;
      critical = critical.0;
      extensions = extensions.0;
      reserved = reserved.0;
      signer = signer.0;
      signature = signature.0;
    } in
    subst (λ (y : Certificate). Lays bytes y) (ok_is {E = CertError} made c e16) (record {
      spelled = subst (λ (n : List ℕ). bytes ≡ string n ++ (string nonce.0 ++ (concat (fields_of key.0) ++ (uint64 serial.0 ++ (uint32 kind_number.0 ++ (string key_id.0 ++ (string (packed_names principals.0) ++ (uint64 after.0 ++ (uint64 before.0
          ++ (string (packed_options critical.0) ++ (string (packed_options extensions.0) ++ (string reserved.0 ++ (string (key_blob signer.0) ++ (string (signature_blob signature.0) ++ [])))))))))))))) named whole;
      key = t_key.in_range;
      serial = t_serial.1;
      kind_number = t_kind_number.1;
      after = t_after.1;
      before = t_before.1;
      signer = t_signer.1;
      signature = t_signature.1;
    })))))))))))))))))

-- what is read is the blob of the certificate
pub certificate_takes : (bytes : List ℕ) (c : Certificate) → IsBytes bytes → certificate_in bytes ≡ Ok c → IsCertificateBlob c bytes
unfolding certificate_in
certificate_takes bytes c fits e = go (ltb longest (length bytes)) refl e
  where
    go : (b : Bool) → ltb longest (length bytes) ≡ b → cond b (Err errors.TooLong) (certificate_at (start bytes)) ≡ Ok c → IsCertificateBlob c bytes
    go true h f = absurd cc
    go false h f =
        let l = lays bytes c fits f in
        let spelled : bytes ≡ certificate_blob c = l.spelled ∙ sym (laid_out_is c) in
        let short : length bytes ≤ longest = ltb-false longest (length bytes) h in
        record {
          is_certificate = record {
            key = l.key;
            serial = l.serial;
            kind_number = l.kind_number;
            after = l.after;
            before = l.before;
            signer = l.signer;
            signature = l.signature;
            length = subst (λ (b : List ℕ). length b ≤ longest) spelled short;
          };
          spelled = spelled;
        }

-- ---- what is spelled so is read

following : (x y : List ℕ) → length (x ++ y) ≤ longest → length y ≤ longest
following x y short = omega (arith, length-append x y, short)

front : (x y : List ℕ) → length (x ++ y) ≤ longest → length x ≤ longest
front x y short = omega (arith, length-append x y, short)

text_lt : (text more : List ℕ) → length (string text ++ more) ≤ longest → length text < 2 ^ 32
text_lt text more short = omega (arith, length-append (string text) more, short)

names_fit : (names : List (List ℕ)) (more : List ℕ) → length (string (packed_names names) ++ more) ≤ longest → AllByRecursion FitsString names
names_fit names more short = all_fit string FitsString longest (λ text h. omega arith) names (omega (arith, length-append (string (packed_names names)) more, short))

options_fit : (options : List CertOption) (more : List ℕ) → length (string (packed_options options) ++ more) ≤ longest → AllByRecursion FitsOption options
options_fit options more short =
    all_fit spelled_option FitsOption longest (λ o h. (omega (arith, length-append (string o.name) (string o.value), h), omega (arith, length-append (string o.name) (string o.value), h))) options
    (omega (arith, length-append (string (packed_options options)) more, short))

-- a step that does not fail, and what follows it
then_step : {A B E : Type 0} (r : Result A E) (x : A) (f : A → Result B E) (y : Result B E) → r ≡ Ok x → f x ≡ y → (r >>= f) ≡ y
then_step r x f y e g = ap (λ (q : Result _ _). q >>= f) e ∙ g

lays_again : (c : Certificate) → IsCertificate c → length (laid_out c) ≤ longest → certificate_at (start (laid_out c)) ≡ Ok c
unfolding certificate_at
lays_again c is short =
    let name = certificate_name_of (kind_of c.key) in
    let fields = concat (fields_of c.key) in
    let names = string (packed_names c.principals) in
    let critical = string (packed_options c.critical) in
    let extensions = string (packed_options c.extensions) in
    let r14 = string (signature_blob c.signature) ++ [] in
    let r13 = string (key_blob c.signer) ++ r14 in
    let r12 = string c.reserved ++ r13 in
    let r11 = extensions ++ r12 in
    let r10 = critical ++ r11 in
    let r9 = uint64 c.before ++ r10 in
    let r8 = uint64 c.after ++ r9 in
    let r7 = names ++ r8 in
    let r6 = string c.key_id ++ r7 in
    let r5 = uint32 c.kind_number ++ r6 in
    let r4 = uint64 c.serial ++ r5 in
    let r3 = fields ++ r4 in
    let r2 = string c.nonce ++ r3 in
    let s2 = following (string name) r2 short in
    let s3 = following (string c.nonce) r3 s2 in
    let s4 = following fields r4 s3 in
    let s5 = following (uint64 c.serial) r5 s4 in
    let s6 = following (uint32 c.kind_number) r6 s5 in
    let s7 = following (string c.key_id) r7 s6 in
    let s8 = following names r8 s7 in
    let s9 = following (uint64 c.after) r9 s8 in
    let s10 = following (uint64 c.before) r10 s9 in
    let s11 = following critical r11 s10 in
    let s12 = following extensions r12 s11 in
    let p2 = 0 + length (string name) in
    let p3 = p2 + length (string c.nonce) in
    let p4 = p3 + length fields in
    let p5 = p4 + length (uint64 c.serial) in
    let p6 = p5 + length (uint32 c.kind_number) in
    let p7 = p6 + length (string c.key_id) in
    let p8 = p7 + length names in
    let p9 = p8 + length (uint64 c.after) in
    let p10 = p9 + length (uint64 c.before) in
    let p11 = p10 + length critical in
    let p12 = p11 + length extensions in
    let p13 = p12 + length (string c.reserved) in
    let p14 = p13 + length (string (key_blob c.signer)) in
    then_step _ _ _ _ (ap (λ (r : Read (List ℕ)). as_cert_error r) (string_again name 0 r2 (text_lt name r2 short)))
    (then_step _ _ _ _ (named_kind (kind_of c.key))
    (then_step _ _ _ _ (ap (λ (r : Read (List ℕ)). as_cert_error r) (string_again c.nonce p2 r3 (text_lt c.nonce r3 s2)))
    (then_step _ _ _ _ (ap (λ (r : ReadKey PublicKey). as_fault errors.Key r) (fields_again c.key p3 r4 is.key (front fields r4 s3)))
    (then_step _ _ _ _ (ap (λ (r : Read ℕ). as_cert_error r) (number_again w64 (2 ^ 64) wide64 c.serial p4 r5 is.serial))
    (then_step _ _ _ _ (ap (λ (r : Read ℕ). as_cert_error r) (number_again w32 (2 ^ 32) wide32 c.kind_number p5 r6 is.kind_number))
    (then_step _ _ _ _ (ap (λ (r : Read (List ℕ)). as_cert_error r) (string_again c.key_id p6 r7 (text_lt c.key_id r7 s6)))
    (then_step _ _ _ _ (packed_again string FitsString string_at string_item errors.Principals c.principals p7 r8 (names_fit c.principals r8 s7) (text_lt (packed_names c.principals) r8 s7))
    (then_step _ _ _ _ (ap (λ (r : Read ℕ). as_cert_error r) (number_again w64 (2 ^ 64) wide64 c.after p8 r9 is.after))
    (then_step _ _ _ _ (ap (λ (r : Read ℕ). as_cert_error r) (number_again w64 (2 ^ 64) wide64 c.before p9 r10 is.before))
    (then_step _ _ _ _ (packed_again spelled_option FitsOption cert_option_at option_item errors.Options c.critical p10 r11 (options_fit c.critical r11 s10) (text_lt (packed_options c.critical) r11 s10))
    (then_step _ _ _ _ (packed_again spelled_option FitsOption cert_option_at option_item errors.Options c.extensions p11 r12 (options_fit c.extensions r12 s11) (text_lt (packed_options c.extensions) r12 s11))
    (then_step _ _ _ _ (ap (λ (r : Read (List ℕ)). as_cert_error r) (string_again c.reserved p12 r13 (text_lt c.reserved r13 s12)))
    (then_step _ _ _ _ (signer_again c.signer p13 r14 is.signer)
    (then_step _ _ _ _ (signature_at_again c.signature p14 [] is.signature)
    refl))))))))))))))

-- the blob of a certificate is read as that certificate
pub certificate_again : (c : Certificate) → IsCertificate c → certificate_in (certificate_blob c) ≡ Ok c
unfolding certificate_in
certificate_again c is =
    let short : ltb longest (length (certificate_blob c)) ≡ false = le-ltb longest (length (certificate_blob c)) is.length in
    rw short (ap (λ (b : List ℕ). certificate_at (start b)) (laid_out_is c) ∙ lays_again c is (subst (λ (b : List ℕ). length b ≤ longest) (laid_out_is c) is.length))

-- a certificate that is read is the one whose blob it is
pub certificate_only : (bytes : List ℕ) (found c : Certificate) → certificate_in bytes ≡ Ok found → IsCertificateBlob c bytes → found ≡ c
certificate_only bytes found c given blob = ok_is {E = CertError} found c (sym given ∙ ap certificate_in blob.spelled ∙ certificate_again c blob.is_certificate)

-- two certificates with one blob are one certificate
pub one_certificate : (a b : Certificate) → IsCertificate a → IsCertificate b → certificate_blob a ≡ certificate_blob b → a ≡ b
one_certificate a b a_is b_is e = ok_is {E = CertError} a b (sym (certificate_again a a_is) ∙ ap certificate_in e ∙ certificate_again b b_is)

-- bytes that are refused are not a certificate's blob
pub certificate_refused : (bytes : List ℕ) (e : CertError) (c : Certificate) → certificate_in bytes ≡ Err e → IsCertificateBlob c bytes → ⊥
certificate_refused bytes e c given blob = let read : certificate_in bytes ≡ Ok c = ap certificate_in blob.spelled ∙ certificate_again c blob.is_certificate in cc

-- ---- the certified key

name_shorter : (kind : KeyKind) → length (key_name_of kind) ≤ length (certificate_name_of kind)
name_shorter Rsa = omega arith
name_shorter P256 = omega arith
name_shorter P384 = omega arith
name_shorter P521 = omega arith
name_shorter Ed25519 = omega arith
name_shorter SkP256 = omega arith
name_shorter SkEd25519 = omega arith

inner : (name nonce fields more : List ℕ) → length (string name ++ (string nonce ++ (fields ++ more))) ≤ longest → length (string name) + length fields ≤ longest
inner name nonce fields more short = omega (arith, length-append (string name) (string nonce ++ (fields ++ more)), length-append (string nonce) (fields ++ more), length-append fields more, short)

-- the certified key has a blob, which is shorter than the certificate's
pub key_is_key : (c : Certificate) → IsCertificate c → IsKey c.key
unfolding key_blob
key_is_key c is =
    let fields = concat (fields_of c.key) in
    let short = subst (λ (b : List ℕ). length b ≤ longest) (laid_out_is c) is.length in
    let total = inner (certificate_name_of (kind_of c.key)) c.nonce fields _ short in
    record { in_range = is.key; length = omega (arith, length-append (string (key_name_of (kind_of c.key))) fields, name_shorter (kind_of c.key), total) }
