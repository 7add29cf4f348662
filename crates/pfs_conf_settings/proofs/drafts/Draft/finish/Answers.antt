-- Answer of Draft::finish: a draft that keeps the load rules of the whole text is a configuration.
use Rattle.std.proofs.Common.{◌∙◌, ap}
use Rattle.pfs_conf_settings.specs.Drafts.{Drafted, const_overload, has_broken_pair, has_too_many_entries, has_too_many_tables, has_unprofiled_cookies, has_unprofiled_routes, unprofiled}
use Rattle.pfs_conf_settings.proofs.FinishLaws.{IsConfig_finished}
use Rattle.pfs_conf_settings.proofs.drafts.Draft.finish.Goals as goal

pub of_parts-requires : goal.of_parts-requires
of_parts-requires c =
    let tables = c.into_tables-tables.ensures.value in
    let draft : Drafted = record {
      profile = c.self.inside.profile;
      syncookies = c.self.inside.syncookies;
      routes = c.self.inside.routes.items;
      limits = c.self.inside.limits;
      timeouts = c.self.inside.timeouts;
      tables = c.self.inside.tables.tables;
      defined = c.self.inside.tables.defined;
      items = c.self.inside.items.items;
    } in
    rw (c.resolved-timeouts.ensures, tables, c.settled-items.ensures)
    (IsConfig_finished draft c.self.invariant c.into_tables-tables.ensures.each c.into_tables-tables.ensures.names
    (ap has_broken_pair c.self.view_is ∙ c.requires.pair)
    (ap const_overload c.self.view_is ∙ c.requires.overloads)
    (ap has_too_many_tables c.self.view_is ∙ c.requires.tables)
    (ap has_unprofiled_cookies c.self.view_is ∙ c.requires.cookies)
    (ap has_unprofiled_routes c.self.view_is ∙ c.requires.routes)
    (ap unprofiled c.self.view_is ∙ c.requires.profile)
    (ap has_too_many_entries c.self.view_is ∙ c.requires.entries))
