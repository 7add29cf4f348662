-- Invariant of digits: the digits so far and those that are left make the number, which stays small.
use Rattle.std.proofs.Common.{◌≡◌, ◌<◌, ◌^◌, drop}
use Rattle.pfs_conf_tokens.specs.Numbers.{digits_from}
use Rattle.pfs_conf_tokens.proofs.numbers.digits.Given as goal

abbrev pub invariant-loop-digit : goal.invariant-loop-digit
invariant-loop-digit l = record {
  value : digits_from l.number (drop l.digit-index l.text) ≡ digits_from 0 l.text;
  small : l.number < 10 ^ l.digit-index;
}
