-- The bytes of each field when a certificate is written.
use Rattle.std.specs.Prelude.{ℕ, List, ◌++◌}
use Rattle.std.specs.List.{concat, flat_map}
use Rattle.ssh_wire.specs.Spelling.{string, uint32, uint64}
use Rattle.ssh_keys.specs.KeyOf.{key_of}
use Rattle.ssh_keys.specs.PublicKey.{fields_of, key_blob}
use Rattle.ssh_keys.specs.Signature.{signature_of, signature_blob}
use Rattle.ssh_certs.specs.declared.row.Field.{Field}
use Rattle.ssh_certs.specs.declared.row.Field.TheVariants.{Uint32, Uint64, Text, Names, Options, KeyFields, Key, Signature}

-- the bytes of a field (PROTOCOL.certkeys)
abbrev pub spelled_field : Field → List ℕ
spelled_field (Uint32 n) = uint32 n
spelled_field (Uint64 n) = uint64 n
spelled_field (Text text) = string text.now
spelled_field (Names names) = string (flat_map (λ name. string name.now) names.now)
spelled_field (Options options) = string (flat_map (λ o. string o.0.now ++ string o.1.now) options.now)
spelled_field (KeyFields key) = concat (fields_of (key_of key))
spelled_field (Key key) = string (key_blob (key_of key))
spelled_field (Signature signature) = string (signature_blob (signature_of signature.view))
