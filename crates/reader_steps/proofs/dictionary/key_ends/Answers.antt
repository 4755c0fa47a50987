-- `reader_steps::dictionary::key_ends` meets its contract. Assumes nothing.
use Rattle.reader_steps.proofs.Entries.{key_ends_before, key_ends_past, key_ends_there, key_end_lem}
use Rattle.std.proofs.Common.{◌∙◌, arith}
use Rattle.utils.proofs.Answered.{checked_value}
use Rattle.reader_steps.proofs.dictionary.key_ends.Goals as goal

pub returns-then-e-j : goal.returns-then-e-j
returns-then-e-j c =
    key_ends_before _ _ _ _ c.if-e-j.true

pub returns-then-b-j : goal.returns-then-b-j
returns-then-b-j c =
    key_ends_past _ _ _ _ c.if-e-j.false c.requires.0 _
    (c.unwrap_or-length.ensures ∙ checked_value c.last_in.result ∙ (key_end_lem _ _ _ _ _ c.if-e-j.false (omega (arith, c.requires.0, c.requires.1)) c.for_encoded_container-size.ensures
    c.last_in.ensures).end) c.if-b-j.true

pub returns : goal.returns
returns c =
    key_ends_there _ _ _ _ c.if-e-j.false c.requires.0 _
    (c.unwrap_or-length.ensures ∙ checked_value c.last_in.result ∙ (key_end_lem _ _ _ _ _ c.if-e-j.false (omega (arith, c.requires.0, c.requires.1)) c.for_encoded_container-size.ensures
    c.last_in.ensures).end) _ (c.width.ensures ∙ c.for_encoded_container-size.ensures) c.if-b-j.false
