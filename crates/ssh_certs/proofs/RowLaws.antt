-- The row that is written is the blob of its certificate.
use Rattle.ssh_certs.proofs.Imports.{◌≡◌, ℕ, List, [], ◌++◌, map, sym, ap, ◌∙◌, Bor, concat, flat_map, flat_map-map, string, uint32, uint64, key_of, certificate_name_of, kind_of, fields_of, signature_of, CertParts, packed_names, packed_options, option_in_packed, certificate_of_parts}
use Rattle.ssh_keys.specs.PublicKey.{key_blob}
use Rattle.ssh_keys.specs.Signature.{signature_blob}
use Rattle.ssh_certs.specs.Certificate.{certificate_blob}
use Rattle.ssh_certs.proofs.CertificateLaws.{laid_out_is}
use Rattle.ssh_certs.proofs.Items.{spelled_option}

-- the fields of the parts, by the type name and by what the three lists are packed into
abbrev spelled_parts : CertParts → List ℕ → List ℕ → List ℕ → List ℕ → List ℕ
spelled_parts v name names critical extensions = string name ++ (string v.nonce.now ++ (concat (fields_of (key_of v.key)) ++ (uint64 v.serial ++ (uint32 v.kind_number ++ (string v.key_id.now
    ++ (string names ++ (uint64 v.after ++ (uint64 v.before ++ (string critical ++ (string extensions
    ++ (string v.reserved.now ++ (string (key_blob (key_of v.signer)) ++ (string (signature_blob (signature_of v.signature)) ++ [])))))))))))))

-- names and options as they lie in memory, one after the other
abbrev names_in : List (Bor (List ℕ)) → List ℕ
names_in names = flat_map (λ name. string name.now) names

abbrev options_in : List (Bor (List ℕ) × Bor (List ℕ)) → List ℕ
options_in options = flat_map (λ o. string o.0.now ++ string o.1.now) options

pub row_spells : (v : CertParts) (name : List ℕ) → name ≡ certificate_name_of (kind_of (key_of v.key))
    → spelled_parts v name (names_in v.principals.now) (options_in v.critical.now) (options_in v.extensions.now) ≡ certificate_blob (certificate_of_parts v)
row_spells v name named =
    let names : names_in v.principals.now ≡ packed_names (map (λ n. n.now) v.principals.now) = sym (flat_map-map string (λ n. n.now) v.principals.now) in
    let critical : options_in v.critical.now ≡ packed_options (map option_in_packed v.critical.now) = sym (flat_map-map spelled_option option_in_packed v.critical.now) in
    let extensions : options_in v.extensions.now ≡ packed_options (map option_in_packed v.extensions.now) = sym (flat_map-map spelled_option option_in_packed v.extensions.now) in
    ap (λ (n : List ℕ). spelled_parts v n (names_in v.principals.now) (options_in v.critical.now) (options_in v.extensions.now)) named
    ∙ ap (λ (n : List ℕ). spelled_parts v (certificate_name_of (kind_of (key_of v.key))) n (options_in v.critical.now) (options_in v.extensions.now)) names
    ∙ ap (λ (n : List ℕ). spelled_parts v (certificate_name_of (kind_of (key_of v.key))) (packed_names (map (λ n. n.now) v.principals.now)) n (options_in v.extensions.now)) critical
    ∙ ap (λ (n : List ℕ). spelled_parts v (certificate_name_of (kind_of (key_of v.key))) (packed_names (map (λ n. n.now) v.principals.now)) (packed_options (map option_in_packed v.critical.now)) n) extensions
    ∙ sym (laid_out_is (certificate_of_parts v))
