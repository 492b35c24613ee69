-- The paths of the web site.
use Rattle.std.specs.Prelude.{ℕ, Bool, ◌&&◌, if◌then◌else◌, List, Option, None, Some, is_some, codes}
use Rattle.std.specs.Str.{bytes_eq}
use Rattle.radio_settings_values.specs.declared.web.WebPath.{WebPath}
use Rattle.radio_settings_values.specs.declared.web.WebPath.TheVariants.{IcecastStatus, Page}
use Rattle.radio_settings_values.specs.declared.web.WebSettings.{WebSettings}

-- what a path names in the web site, of what is on
-- rule: Icecast status; Web table
unfoldable pub web_path : WebSettings → List ℕ → Option WebPath
web_path web path =
    if web.icecast_status && bytes_eq path (codes "/status-json.xsl") then Some IcecastStatus
    else if web.page && bytes_eq path (codes "/") then Some Page
    else None

-- the path is one of the web site
abbrev pub is_web_path : WebSettings → List ℕ → Bool
is_web_path web path = is_some (web_path web path)
