-- How the kinds of faults are printed. (own)
use Rattle.std.specs.Prelude.{ℕ, List, codes}
use Rattle.pfs_conf.specs.declared.kinds.Kind.{Kind}
use Rattle.pfs_conf.specs.declared.kinds.Kind.TheVariants as kind

-- a kind is printed by its name
abbrev pub kind_name : Kind → List ℕ
kind_name kind.Syntax = codes "Syntax"
kind_name kind.Unsupported = codes "Unsupported"
kind_name kind.Number = codes "Number"
kind_name kind.Duplicate = codes "Duplicate"
kind_name kind.GlobalConn = codes "GlobalConn"
kind_name kind.GlobalRetention = codes "GlobalRetention"
kind_name kind.OverloadAlone = codes "OverloadAlone"
kind_name kind.AdaptivePair = codes "AdaptivePair"
kind_name kind.TranslationWithoutWay = codes "TranslationWithoutWay"
kind_name kind.TranslationFamily = codes "TranslationFamily"
kind_name kind.CookiePair = codes "CookiePair"
kind_name kind.PortWithoutProto = codes "PortWithoutProto"
kind_name kind.ConstOverload = codes "ConstOverload"
kind_name kind.StateOnBlock = codes "StateOnBlock"
kind_name kind.TooDeep = codes "TooDeep"
kind_name kind.TooManyRules = codes "TooManyRules"
kind_name kind.TooManyTables = codes "TooManyTables"
kind_name kind.NeedsProfile = codes "NeedsProfile"
kind_name kind.TooManyEntries = codes "TooManyEntries"
kind_name kind.TooLong = codes "TooLong"
kind_name kind.Memory = codes "Memory"
