pub mod SiteAt
