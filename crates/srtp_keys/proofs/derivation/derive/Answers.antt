use Rattle.std.proofs.Common.{◌∙◌}
use Rattle.srtp_keys.specs.Derivation.{cipher_key, authentication_key, session_salt}
use Rattle.srtp_keys.proofs.Deriving.{derived_by_apply}
use Rattle.srtp_keys.proofs.derivation.derive.Goals as goal

pub returns-clause-cipher : goal.returns-clause-cipher
unfolding cipher_key
returns-clause-cipher c = c.new.ensures ∙ (rw (← c.cipher_label.ensures) (derived_by_apply c.args.master.now _ _ c.cipher_label.result _ 16 (c.new-cipher.ensures ∙ c.master_key.ensures) (rw c.master_salt-master_salt.ensures.bytes at c.label_counter.ensures) c.apply.ensures))

pub returns-clause-auth : goal.returns-clause-auth
unfolding authentication_key
returns-clause-auth c = rw (← c.authentication_label.ensures) (derived_by_apply c.args.master.now _ _ c.authentication_label.result _ 20 (c.new-cipher.ensures ∙ c.master_key.ensures) (rw c.master_salt-master_salt.ensures.bytes at c.label_counter-2.ensures) c.apply-2.ensures)

pub returns-clause-salt : goal.returns-clause-salt
unfolding session_salt
returns-clause-salt c = rw (← c.salt_label.ensures) (derived_by_apply c.args.master.now _ _ c.salt_label.result _ 14 (c.new-cipher.ensures ∙ c.master_key.ensures) (rw c.master_salt-master_salt.ensures.bytes at c.label_counter-3.ensures) c.apply-3.ensures)
