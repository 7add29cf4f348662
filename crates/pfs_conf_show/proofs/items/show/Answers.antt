-- Answer of show: the lines of settings, of tables and of items, one after the other, are the whole text.
use Rattle.std.proofs.Common.{◌≡◌, ◌++◌, ◌∙◌, ap, List, [], ℕ}
use Rattle.std.specs.List.{flat_map}
use Rattle.pfs_conf_values.specs.declared.profiles.Profile.{Profile}
use Rattle.pfs_conf_values.specs.declared.routes.Route.{Route}
use Rattle.pfs_conf_values.specs.declared.syncookies.Syncookies.{Syncookies}
use Rattle.pfs_conf_show.specs.Settings.{limits_text, profile_text, routes_text, syncookies_text, timeouts_text}
use Rattle.pfs_conf_show.specs.Tables.{table_text}
use Rattle.pfs_conf_show.specs.Texts.{items_text}
use Rattle.pfs_conf_show.proofs.ListLaws.{behind}
use Rattle.pfs_conf_show.proofs.items.show.Goals as goal

whole : (a b p s r t i o0 o1 o2 o3 o4 o5 o6 o7 : List ℕ) → o0 ≡ [] → o1 ≡ o0 ++ a → o2 ≡ o1 ++ b → o3 ≡ o2 ++ p → o4 ≡ o3 ++ s → o5 ≡ o4 ++ r → o6 ≡ o5 ++ t → o7 ≡ o6 ++ i
    → o7 ≡ a ++ (b ++ (p ++ (s ++ (r ++ (t ++ i)))))
whole a b p s r t i o0 o1 o2 o3 o4 o5 o6 o7 none e f g j l h k =
    behind o0 a (b ++ (p ++ (s ++ (r ++ (t ++ i))))) e
    (behind o1 b (p ++ (s ++ (r ++ (t ++ i)))) f (behind o2 p (s ++ (r ++ (t ++ i))) g (behind o3 s (r ++ (t ++ i)) j (behind o4 r (t ++ i) l (behind o5 t i h k)))))
    ∙ ap (λ (z : List ℕ). z ++ (a ++ (b ++ (p ++ (s ++ (r ++ (t ++ i))))))) none

pub returns : goal.returns
returns c =
    let conf = c.args.config.now in
    whole (limits_text conf.limits) (timeouts_text conf.timeouts) (profile_text conf.profile) (syncookies_text conf.syncookies) (routes_text conf.routes) (flat_map table_text conf.tables) (items_text conf.tables 0 conf.items)
    c.new-out.result.items c.push_limits.new.out.items c.push_timeouts.new.out.items c.push_profile.new.out.items c.push_syncookies.new.out.items c.push_routes.new.out.items c.push_tables.new.out.items c.push_items.new.out.items
    c.new-out.ensures.items c.in_ok-push_limits.ensures c.in_ok-push_timeouts.ensures
    (c.in_ok-push_profile.ensures ∙ ap (λ (p : Profile). c.push_timeouts.new.out.items ++ profile_text p) c.profile.ensures)
    (c.in_ok-push_syncookies.ensures ∙ ap (λ (s : Syncookies). c.push_profile.new.out.items ++ syncookies_text s) c.syncookies.ensures.value)
    (c.in_ok-push_routes.ensures ∙ ap (λ (r : List Route). c.push_syncookies.new.out.items ++ routes_text r) c.routes.ensures.value)
    c.in_ok-push_tables.ensures c.in_ok-push_items.ensures
