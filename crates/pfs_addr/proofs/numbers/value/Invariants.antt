-- Invariant of value: the digits so far and those that are left make the number, which stays small.
use Rattle.std.proofs.Common.{◌≡◌, ◌<◌, ◌^◌, drop}
use Rattle.std.specs.List.{list_all}
use Rattle.std.specs.Str.Parse.{digits_value, digits_value_after}
use Rattle.pfs_addr_values.specs.Numbers.{is_digit}
use Rattle.pfs_addr.proofs.numbers.value.Given as goal

abbrev pub invariant-loop-b : goal.invariant-loop-b
invariant-loop-b l = record {
  value : digits_value_after 10 l.n (drop l.b-index l.text) ≡ digits_value 10 l.text;
  digits : list_all is_digit (drop l.b-index l.text) ≡ list_all is_digit l.text;
  small : l.n < 10 ^ l.b-index;
}
